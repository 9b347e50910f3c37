-- What the writers of a tidy table put into the output: the definition's bytes, under the numbers that the lists have.
use Rattle.std.specs.Prelude.{ℕ, zero, suc, ◌^◌, ◌<◌, ◌≡◌, List, [], ◌∷◌, ◌++◌, length}
use Rattle.model.specs.Syntax.{Transfer, Block}
use Rattle.model.specs.Read as Read
use Rattle.model.specs.Read.{Parsed}
use Rattle.model.specs.Write as Write
use Rattle.code.specs.Bytes.{byte_at, past}
use Rattle.code.specs.Code.{list_end, expression_end, spawn_end}
use Rattle.puts.specs.Puts.{Puts, stretch}
use Rattle.numbering.specs.Renamed as Renamed
use Rattle.numbering.specs.Renamed.{Names}
use Rattle.kept.specs.Kept.{number_in}
use Rattle.tidy.specs.declared.Numbering.{Numbering}

-- the new numbers that three lists have
abbrev pub names_by : Numbering → Names
names_by numbers =
    record { function = number_in numbers.functions; block = number_in numbers.blocks; spawn = number_in numbers.spawns }

-- the name at an offset under a new number; two names; a name, and the argument list behind it
abbrev pub renamed_name : (ℕ → ℕ) → List ℕ → ℕ → List ℕ
renamed_name f s at = f (byte_at s at) ∷ []

abbrev pub renamed_two : (ℕ → ℕ) → (ℕ → ℕ) → List ℕ → ℕ → List ℕ
renamed_two f g s at = f (byte_at s at) ∷ g (byte_at s (past at 1)) ∷ []

abbrev pub renamed_applied : (ℕ → ℕ) → List ℕ → ℕ → List ℕ
renamed_applied f s at = f (byte_at s at) ∷ stretch s (past at 1) (spawn_end s at)

-- what follows the kind of an if, and of a call
abbrev pub renamed_if : (ℕ → ℕ) → List ℕ → ℕ → List ℕ
renamed_if f s at = stretch s at (expression_end s at) ++ renamed_two f f s (expression_end s at)

abbrev pub renamed_call : (ℕ → ℕ) → (ℕ → ℕ) → List ℕ → ℕ → List ℕ
renamed_call f g s at = renamed_applied f s at ++ renamed_name g s (spawn_end s at)

-- what follows a transfer's kind
unfoldable pub renamed_kind : Names → ℕ → List ℕ → ℕ → List ℕ
renamed_kind N zero s at = renamed_applied N.block s at
renamed_kind N (suc zero) s at = renamed_if N.block s at
renamed_kind N (suc (suc zero)) s at = renamed_call N.function N.block s at
renamed_kind N (suc (suc (suc zero))) s at = stretch s at (list_end s at)
renamed_kind N (suc (suc (suc (suc zero)))) s at = renamed_two N.block N.spawn s at
renamed_kind N (suc (suc (suc (suc (suc kind))))) s at = renamed_two N.block N.block s at

-- where a transfer or a block reads at an offset: it is put under the new numbers
abbrev pub PutsTransfer : List ℕ → ℕ → Names → List ℕ → ℕ → ℕ → List ℕ → Type 0
PutsTransfer s at N out k r out' =
    (T : Transfer) (e : ℕ) → Read.transfer s at ≡ Parsed.ok T e → length s < 2 ^ 64 →
    Puts out k (Write.transfer (Renamed.transfer N T)) r out'

abbrev pub PutsBlock : List ℕ → ℕ → Names → List ℕ → ℕ → ℕ → List ℕ → Type 0
PutsBlock s at N out k r out' =
    (B : Block) (e : ℕ) → Read.block s at ≡ Parsed.ok B e → length s < 2 ^ 64 →
    Puts out k (Write.block (Renamed.block N B)) r out'
