-- A transfer at an offset, by its kind, and the blocks that it names.
use Rattle.std.proofs.Common.{◌≡◌, ℕ, min, List, [], ◌∷◌, arith}
use Rattle.model.specs.Syntax.{targets}
use Rattle.code.specs.declared.Kind.{Kind}
use Rattle.code.specs.declared.Kind.TheVariants.{Goto, If, Call, Return, Spork, Spoin}
use Rattle.code.specs.Bytes.{byte_at, past}
use Rattle.code.specs.Code.{run, expression_end, spawn_end, transfer_of, transfer_at}
use Rattle.code.specs.Kinds.{number_of}
use Rattle.code.proofs.KindLaws.{by-kind}

pub past-past : (at : ℕ) → past at 2 ≡ past (past at 1) 1
unfolding past
past-past at = omega arith

pub is-of : (s : List ℕ) (at : ℕ) {first kind : ℕ} → first ≡ past at 1 → kind ≡ byte_at s at → transfer_at s at ≡ transfer_of kind s first
unfolding transfer_at
is-of s at f k = rw (f, k)

module _ (s : List ℕ) (at : ℕ) {first : ℕ} {kind : Kind} (f : first ≡ past at 1) (k : number_of kind ≡ min (byte_at s at) 5) where
  pub names-goto : kind ≡ Goto → targets (transfer_at s at) ≡ byte_at s first ∷ []
  unfolding transfer_of targets
  names-goto z = rw (by-kind s at k f z)

  pub names-if : {x : ℕ} → kind ≡ If → x ≡ expression_end s first → targets (transfer_at s at) ≡ run s x 2
  unfolding transfer_of targets run
  names-if z e = rw (by-kind s at k f z, e)

  pub names-call : {x : ℕ} → kind ≡ Call → x ≡ spawn_end s first → targets (transfer_at s at) ≡ byte_at s x ∷ []
  unfolding transfer_of targets spawn_end
  names-call z e = rw (by-kind s at k f z, e)

  pub names-return : kind ≡ Return → targets (transfer_at s at) ≡ []
  unfolding transfer_of targets
  names-return z = rw (by-kind s at k f z)

  pub names-spork : kind ≡ Spork → targets (transfer_at s at) ≡ byte_at s first ∷ []
  unfolding transfer_of targets
  names-spork z = rw (by-kind s at k f z)

  pub names-spoin : kind ≡ Spoin → targets (transfer_at s at) ≡ run s first 2
  unfolding transfer_of targets run
  names-spoin z = rw (by-kind s at k f z)
