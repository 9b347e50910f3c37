-- Which frames, threads and pools have kept things alone, and what follows another under new numbers.
use mathlib.Core.Path.{◌≡◌, refl}
use mathlib.Core.Bool.{Bool, true, false}
use mathlib.Core.Option.{Option, none, some, map}
use Rattle.model.specs.Lists.{Each}
use Rattle.model.specs.Pool.{Frame, Thread, Pool, frames}
use Rattle.model.specs.Frames.{◌>>=◌, when}
use Rattle.model.proofs.Kept.{OnSome}
use Rattle.numbering.specs.Renumbers.{Numbering, FunctionKept, BlockKept, SpawnKept}

-- a frame of a kept function, at a kept block, with kept calls open
pub record KeptFrame (R : Numbering) (k : Frame) : Type 0 where
  pub function : FunctionKept R k.function
  pub block : BlockKept R k.function k.block
  pub calls : Each (SpawnKept R k.function) k.calls

abbrev pub KeptThread : Numbering → Thread → Type 0
KeptThread R t = Each (KeptFrame R) (frames t)

abbrev pub KeptPool : Numbering → Pool → Type 0
KeptPool R p = Each (KeptThread R) p

-- a' is a under new numbers, and a has kept things alone
pub record Follows {A : Type 0} (new : A → A) (Kept : A → Type 0) (a a' : A) : Type 0 where
  pub same : a' ≡ new a
  pub kept : Kept a

-- the same of what may be there
module _ {A : Type 0} (new : A → A) (Kept : A → Type 0) where
  abbrev pub FollowsIf : Option A → Option A → Type 0
  FollowsIf o o' = Follows (map new) (OnSome Kept) o o'

  -- after the same lookup, and under the same test
  pub follows-bind : {C : Type 0} (o : Option C) (j j' : C → Option A) → ((c : C) → o ≡ some c → FollowsIf (j c) (j' c)) →
      FollowsIf (◌>>=◌ o j) (◌>>=◌ o j')
  follows-bind none j j' h = record { same = refl; kept = tt }
  follows-bind (some c) j j' h = h c refl

  pub follows-when : (b : Bool) (o o' : Option A) → FollowsIf o o' → FollowsIf (when b o) (when b o')
  unfolding when
  follows-when true o o' h = h
  follows-when false o o' h = record { same = refl; kept = tt }

  pub follows-some : {a a' : A} → Follows new Kept a a' → FollowsIf (some a) (some a')
  follows-some h = record { same = rw h.same; kept = h.kept }

-- and after a lookup that follows
pub follows_then : {A B : Type 0} (new : A → A) (Kept : A → Type 0) (new' : B → B) (Kept' : B → Type 0) (o o' : Option A)
    (j j' : A → Option B) → FollowsIf new Kept o o' → ((a : A) → Kept a → FollowsIf new' Kept' (j a) (j' (new a))) →
    FollowsIf new' Kept' (◌>>=◌ o j) (◌>>=◌ o' j')
follows_then new Kept new' Kept' none o' j j' h f = rw h.same (record { same = refl; kept = tt })
follows_then new Kept new' Kept' (some a) o' j j' h f = rw h.same (f a h.kept)
