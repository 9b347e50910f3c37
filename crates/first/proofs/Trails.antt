-- Where words allow one step alone, two trails from the same words agree.
use mathlib.Core.Path.{◌≡◌, refl, sym, ◌∙◌, ap₂, subst}
use mathlib.Core.Logic.{◌⊎◌, inl, inr}
use mathlib.Core.List.{List, [], ◌∷◌, ◌++◌, append-nil}
use lib.IntN.{ℤ}
use Rattle.first.specs.Trails as Trails
use Rattle.first.specs.Trails.{Trail, Agree}

module _ {A : Type 0} (left : A → List ℤ) (From : List ℤ → A → Type 0) (one : (ws : List ℤ) (t u : A) → From ws t → From ws u → t ≡ u)
    (Over : List ℤ → Type 0) (over : (ws : List ℤ) → Over ws → (t : A) → ¬ From ws t) where
  abbrev Begins : List A → List ℤ → List A → List ℤ → Type 0
  Begins ts w us v = Trails.Begins left From ts w us v

  begins : (ws : List ℤ) (ts : List A) (w : List ℤ) (us : List A) (v : List ℤ) → Trail left From ws ts w → Trail left From ws us v →
      Begins ts w us v ⊎ Begins us v ts w
  begins ws [] w us v m n = inl (record { more = us; is = refl; on = subst (λ (x : List ℤ). Trail left From x us v) m n })
  begins ws (t ∷ ts) w [] v m n = inr (record { more = t ∷ ts; is = refl; on = subst (λ (x : List ℤ). Trail left From x (t ∷ ts) w) n m })
  begins ws (t ∷ ts) w (u ∷ us) v (a, m) (b, n) =
      go (begins (left t) ts w us v m (subst (λ (x : A). Trail left From (left x) us v) (sym same) n))
    where
      same : t ≡ u
      same = one ws t u a b

      go : Begins ts w us v ⊎ Begins us v ts w → Begins (t ∷ ts) w (u ∷ us) v ⊎ Begins (u ∷ us) v (t ∷ ts) w
      go (inl x) = inl (record { more = x.more; is = ap₂ {C = List A} ◌∷◌ (sym same) x.is; on = x.on })
      go (inr x) = inr (record { more = x.more; is = ap₂ {C = List A} ◌∷◌ same x.is; on = x.on })

  -- nothing goes on from where it is over
  stops : (ts : List A) (w : List ℤ) (us : List A) (v : List ℤ) → Over w → Begins ts w us v → (us ≡ ts) × (w ≡ v)
  stops ts w us v o x = go x.more x.is x.on
    where
      go : (more : List A) → us ≡ ts ++ more → Trail left From w more v → (us ≡ ts) × (w ≡ v)
      go [] e m = (e ∙ append-nil ts, m)
      go (t ∷ more) e m = absurd (over w o t m.0)

  ended : (ts : List A) (w : List ℤ) (us : List A) (v : List ℤ) → Over w → Begins ts w us v ⊎ Begins us v ts w → Begins us v ts w
  ended ts w us v o (inr x) = x
  ended ts w us v o (inl x) =
      let (e, m) = stops ts w us v o x in
      record { more = []; is = sym e ∙ sym (append-nil us); on = sym m }

  pub agree : (ws : List ℤ) (ts : List A) (w : List ℤ) (us : List A) (v : List ℤ) → Trail left From ws ts w → Trail left From ws us v →
      Agree left From Over ts w us v
  agree ws ts w us v m n =
      let x = begins ws ts w us v m n in
      record {
        begins = x;
        ended = λ o. ended ts w us v o x;
        both = λ o p. let (e, i) = stops us v ts w p (ended ts w us v o x) in (e, sym i);
      }
