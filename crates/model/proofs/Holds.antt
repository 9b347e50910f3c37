-- A tree of tests as the facts that it tests: no fault is found exactly where they hold.
use Prim.Native.Nat.{ℕ}
use mathlib.Core.Path.{◌≡◌, refl, sym, ◌∙◌, ap}
use mathlib.Core.Bool.{Bool, true, false}
use mathlib.Core.Option.{Option, none, some}
use mathlib.Core.List.{List, [], ◌∷◌}
use Rattle.model.specs.Lists.{Each}
use Rattle.model.specs.Tests.{Tests, or, failed, of_given, of_each, fault}
use Rattle.model.proofs.Facts.{none-some, some-injective, each_map}

abbrev pub Holds : Tests → Type 0
Holds Tests.fine = Unit {0}
Holds (Tests.need n b) = b ≡ true
Holds (Tests.◌then◌ t u) = Holds t × Holds u
Holds (Tests.given {A} n o k) = (a : A) × (o ≡ some a) × Holds (k a)
Holds (Tests.each t l) = Each (λ a. Holds (t a)) l

some-none : {A : Type 0} {n : ℕ} → some n ≡ none → A
some-none e = none-some (sym e)

-- the parts of a tree
sound-need : (n : ℕ) (b : Bool) → failed b n ≡ none → b ≡ true
sound-need n true e = refl
sound-need n false e = some-none e

or_left : (o p : Option ℕ) → or o p ≡ none → o ≡ none
unfolding or
or_left none p e = refl
or_left (some n) p e = e

or_right : (o p : Option ℕ) → or o p ≡ none → p ≡ none
unfolding or
or_right none p e = e
or_right (some n) p e = some-none e

or-none : (o p : Option ℕ) → o ≡ none → p ≡ none → or o p ≡ none
unfolding or
or-none none p d e = e
or-none (some n) p d e = d

given-sound : {A : Type 0} (n : ℕ) (o : Option A) (k : A → Option ℕ) → of_given n o k ≡ none → (a : A) × (o ≡ some a) × (k a ≡ none)
unfolding of_given
given-sound n none k e = some-none e
given-sound n (some a) k e = (a, refl, e)

given-complete : {A : Type 0} (n : ℕ) (o : Option A) (k : A → Option ℕ) (a : A) → o ≡ some a → k a ≡ none → of_given n o k ≡ none
unfolding of_given
given-complete n none k a d e = none-some d
given-complete n (some b) k a d e = ap k (some-injective d) ∙ e

each-sound : {A : Type 0} (f : A → Option ℕ) (l : List A) → of_each f l ≡ none → Each (λ a. f a ≡ none) l
unfolding of_each
each-sound f [] e = tt
each-sound f (a ∷ l) e = (or_left (f a) _ e, each-sound f l (or_right (f a) _ e))

each-complete : {A : Type 0} (f : A → Option ℕ) (l : List A) → Each (λ a. f a ≡ none) l → of_each f l ≡ none
unfolding of_each
each-complete f [] h = refl
each-complete f (a ∷ l) h = or-none (f a) _ h.0 (each-complete f l h.1)

pub sound : (t : Tests) → fault t ≡ none → Holds t
unfolding fault
sound Tests.fine e = tt
sound (Tests.need n b) e = sound-need n b e
sound (Tests.◌then◌ t u) e = (sound t (or_left _ _ e), sound u (or_right (fault t) _ e))
sound (Tests.given n o k) e = let g = given-sound n o (λ a. fault (k a)) e in (g.0, g.1, sound (k g.0) g.2)
sound (Tests.each t l) e = each_map (λ a. sound (t a)) l (each-sound (λ a. fault (t a)) l e)

pub complete : (t : Tests) → Holds t → fault t ≡ none
unfolding fault
complete Tests.fine h = refl
complete (Tests.need n b) h = ap (λ (c : Bool). failed c n) h
complete (Tests.◌then◌ t u) h = or-none (fault t) (fault u) (complete t h.0) (complete u h.1)
complete (Tests.given n o k) h = given-complete n o (λ a. fault (k a)) h.0 h.1 (complete (k h.0) h.2)
complete (Tests.each t l) h = each-complete (λ a. fault (t a)) l (each_map (λ a. complete (t a)) l h)
