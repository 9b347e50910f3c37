-- The tests of a transfer, from what the lookups and the walks say of what stands there.
use Prim.Native.Nat.{ℕ, ◌+◌, ◌^◌, ◌<◌, min}
use mathlib.Core.Path.{◌≡◌, refl, sym, ◌∙◌, ap}
use mathlib.Core.Bool.{Bool, true, false}
use mathlib.Core.Option.{Option, none, some, map}
use mathlib.Core.List.{List, []}
use lib.Dec.{eqb}
use lib.ListN.{length, get_elem?}
use Rattle.model.specs.Numbers as No
use Rattle.model.specs.Lists.{all, equal, unsnoc}
use Rattle.model.specs.Syntax.{Transfer, SpawnCall, Signature, Function, Program, uses}
use Rattle.model.specs.Tests.{Tests, of_given, fault}
use Rattle.model.specs.WellFormed.{Env, env, signature_of}
use Rattle.model.specs.Check as Check
use Rattle.model.specs.Limits.{Temporaries, Arguments, InTransfer}
use Rattle.model.proofs.Facts.{eq-eqb, ne_eqb, unsnoc-snoc, none-some, some-injective}
use Rattle.std.specs.Prelude.{Option as Optional, Some, None, Ok}
use Rattle.places.specs.Places.{Place, Places, FindsSpawn}
use Rattle.code.specs.Bytes.{byte_at, past}
use Rattle.code.specs.Code.{run, head_in, count_at, arguments_at, list_end, expression_at, expression_end, spawn_at, transfer_of}
use Rattle.code.specs.Code.{transfer_at}
use Rattle.code.specs.Code.{goto_at, if_at, call_at, return_at, spork_at, spoin_at}
use Rattle.code.specs.declared.Opening.{Opening}
use Rattle.code.specs.declared.Kind.{Kind}
use Rattle.code.specs.Kinds.{number_of}
use Rattle.code.proofs.Ends.{arguments-length}
use Rattle.code.proofs.KindLaws.{by-kind}
use Rattle.bound.specs.Walks.{holds, seen_as}
use Rattle.bound.proofs.Looks.{all-has, seen-in, seen-out}
use Rattle.bound.proofs.Faults.{need-fails, need-holds, then-first, then-second, given-fails, given-goes}
use Rattle.targets.specs.declared.Here.{Here}
use Rattle.targets.specs.Targets.{Verdict, Target, Callee, fails, Within, target_of, Targets, callee_of, Callees, called_by, Spawns}
use Rattle.targets.specs.Targets.{nesting_of, One, Both, Grown, Judges}
use Rattle.targets.proofs.Lookups.{no-spawn, spawn-at}
use Rattle.targets.proofs.Nestings.{run-snoc, runs-differ}

-- a block and a function by the byte that names it
module _ (s places : List ℕ) (f : ℕ) {b c : ℕ} (t : Target) (d : b ≡ c) (h : Targets s places f b t) {P : Program} {F : Function}
    (W : Within s places f P F) where
  no_target : t ≡ None → (env P F).block c ≡ none
  no_target z = rw (← d) (sym (h P F W) ∙ ap (target_of s) z)

  the-target : {o : Opening} → t ≡ Some o → (env P F).block c ≡ some (head_in s o)
  the-target z = rw (← d) (sym (h P F W) ∙ ap (target_of s) z)

module _ (s places : List ℕ) {b c : ℕ} (t : Callee) (d : b ≡ c) (h : Callees s places b t) {P : Program} (I : Places s P places)
    (F : Function) where
  pub no-callee : t ≡ None → (env P F).function c ≡ none
  unfolding env
  no-callee z = rw (← d) (sym (h P I) ∙ ap callee_of z)

  pub the-callee : {n m : ℕ} → t ≡ Some (n, m) → (env P F).function c ≡ some (record { parameters = n; returns = m })
  unfolding env
  the-callee z = rw (← d) (sym (h P I) ∙ ap callee_of z)

-- the function of a spawn call, one test after the other
through : (E : Env) (o : Option SpawnCall) (k : Signature → Tests)
    → fault (Tests.given No.missing o λ S. Tests.given No.missing (E.function S.function) k) ≡
    of_given No.missing (called_by E o) (λ G. fault (k G))
unfolding fault of_given
through E none k = refl
through E (some S) k = refl

-- an argument list that is bound, or not, and its length
module _ (s : List ℕ) (Γ : ℕ) {list k most : ℕ} {u : Bool} (q : list ≡ k) (e : u ≡ all (holds Γ) (arguments_at s list))
    (a : Arguments most (arguments_at s k)) where
  list-out : u ≡ false → fault (Check.bound Γ (arguments_at s k)) ≡ some No.unbound
  unfolding Check.bound
  list-out z = need-fails No.unbound _ (sym (all-has Γ _ a.each) ∙ rw (← q) (sym e ∙ z))

  list-in : u ≡ true → fault (Check.bound Γ (arguments_at s k)) ≡ none
  unfolding Check.bound
  list-in z = need-holds No.unbound _ (sym (all-has Γ _ a.each) ∙ rw (← q) (sym e ∙ z))

pub list-long : (s : List ℕ) {list k n : ℕ} → list ≡ k → n ≡ count_at s list → length (arguments_at s k) ≡ n
list-long s q e = rw (← q) (arguments-length s _ ∙ sym e)

-- a function's own signature
module _ (s places : List ℕ) (f : ℕ) (t : Callee) (h : Callees s places f t) {P : Program} {F : Function} (W : Within s places f P F) where
  own : callee_of t ≡ some F.signature
  own = h P W.index ∙ ap (map signature_of) W.there

  pub own-there : {A : Type 0} → t ≡ None → A
  own-there z = none-some (sym (ap callee_of z) ∙ own)

  pub own_is : {n m : ℕ} → t ≡ Some (n, m) → F.signature ≡ record { parameters = n; returns = m }
  own_is z = some-injective (sym own ∙ ap callee_of z)

module _ (s places : List ℕ) (here : Here) (at : ℕ) where
  -- goto
  module _ {list : ℕ} {u : Bool} (q : list ≡ past at 1) (e : u ≡ all (holds here.bound) (arguments_at s list)) where
    pub goto-unbound : u ≡ false → Judges s places here (goto_at s at) (fails No.unbound)
    unfolding InTransfer Check.transfer
    goto-unbound z P F W L = then-first _ _ (list-out s here.bound q e L z)

    module _ {b : ℕ} (t : Target) (z : u ≡ true) (d : b ≡ byte_at s at) (h : Targets s places here.f b t) where
      pub goto-missing : t ≡ None → Judges s places here (goto_at s at) (fails No.missing)
      unfolding InTransfer Check.transfer
      goto-missing y P F W L =
          then-second _ _ (list-in s here.bound q e L z) (given-fails _ _ _ (no_target s places here.f t d h W y))

      pub goto-one : {o : Opening} {n : ℕ} (v : Verdict) → t ≡ Some o → n ≡ count_at s list → One s here o n v
          → Judges s places here (goto_at s at) v
      unfolding InTransfer Check.transfer
      goto-one v y l i P F W L =
          then-second _ _ (list-in s here.bound q e L z)
          (given-goes _ _ _ (the-target s places here.f t d h W y) (rw (list-long s q l) i))

    -- call
    module _ {b : ℕ} (t : Callee) (z : u ≡ true) (d : b ≡ byte_at s at) (h : Callees s places b t) where
      pub call-unknown : t ≡ None → Judges s places here (call_at s at) (fails No.missing)
      unfolding InTransfer Check.transfer
      call-unknown y P F W L =
          then-second _ _ (list-in s here.bound q e L z) (given-fails _ _ _ (no-callee s places t d h W.index F y))

      module _ {n m j c : ℕ} (w : Target) (y : t ≡ Some (n, m)) (p : j ≡ list_end s list) (i : c ≡ byte_at s j)
          (g : Targets s places here.f c w) where
        named : c ≡ byte_at s (list_end s (past at 1))
        named = rw (← q, ← p) i

        pub call-missing : w ≡ None → Judges s places here (call_at s at) (fails No.missing)
        unfolding InTransfer Check.transfer
        call-missing x P F W L =
            then-second _ _ (list-in s here.bound q e L z)
            (given-goes _ _ _ (the-callee s places t d h W.index F y)
            (given-fails _ _ _ (no_target s places here.f w named g W x)))

        module _ {o : Opening} {l : ℕ} (x : w ≡ Some o) (a : l ≡ count_at s list) where
          pub call-count : (l ≡ n → ⊥) → Judges s places here (call_at s at) (fails No.count)
          unfolding InTransfer Check.transfer
          call-count k P F W L =
              then-second _ _ (list-in s here.bound q e L z)
              (given-goes _ _ _ (the-callee s places t d h W.index F y)
              (given-goes _ _ _ (the-target s places here.f w named g W x)
              (then-first _ _ (need-fails No.count _ (ne_eqb _ _ (λ r. k (sym (list-long s q a) ∙ r)))))))

          pub call-one : (v : Verdict) → l ≡ n → One s here o m v → Judges s places here (call_at s at) v
          unfolding InTransfer Check.transfer
          call-one v k r P F W L =
              then-second _ _ (list-in s here.bound q e L z)
              (given-goes _ _ _ (the-callee s places t d h W.index F y)
              (given-goes _ _ _ (the-target s places here.f w named g W x)
              (then-second _ _ (need-holds No.count _ (eq-eqb _ _ (list-long s q a ∙ k))) r)))

    pub call-unbound : u ≡ false → Judges s places here (call_at s at) (fails No.unbound)
    unfolding InTransfer Check.transfer
    call-unbound z P F W L = then-first _ _ (list-out s here.bound q e L z)

  -- return
  module _ {u : Bool} (e : u ≡ all (holds here.bound) (arguments_at s at)) where
    pub return-unbound : u ≡ false → Judges s places here (return_at s at) (fails No.unbound)
    unfolding InTransfer Check.transfer
    return-unbound z P F W L = then-first _ _ (list-out s here.bound refl e L z)

    module _ {n m l : ℕ} (t : Callee) (z : u ≡ true) (h : Callees s places here.f t) (y : t ≡ Some (n, m)) (a : l ≡ count_at s at) where
      returns : {P : Program} {F : Function} → Within s places here.f P F → m ≡ (env P F).own.returns
      unfolding env
      returns W = ap (λ (S : Signature). S.returns) (sym (own_is s places here.f t h W y))

      pub return-count : (l ≡ m → ⊥) → Judges s places here (return_at s at) (fails No.count)
      unfolding InTransfer Check.transfer
      return-count k P F W L =
          then-second _ _ (list-in s here.bound refl e L z)
          (then-first _ _ (need-fails No.count _ (ne_eqb _ _ (λ r. k (sym (list-long s refl a) ∙ r ∙ sym (returns W))))))

      module _ (k : l ≡ m) where
        counted : {P : Program} {F : Function} → Within s places here.f P F
            → eqb (length (arguments_at s at)) (env P F).own.returns ≡ true
        counted W = eq-eqb _ _ (list-long s refl a ∙ k ∙ returns W)

        pub return-nested : (here.depth ≡ 0 → ⊥) → Judges s places here (return_at s at) (fails No.nesting)
        unfolding InTransfer Check.transfer
        return-nested r P F W L =
            then-second _ _ (list-in s here.bound refl e L z)
            (then-second _ _ (need-holds No.count _ (counted W))
            (need-fails No.nesting _ (sym (runs-differ s here.nesting here.depth [] r))))

        pub return-fine : here.depth ≡ 0 → Judges s places here (return_at s at) (Ok tt)
        unfolding InTransfer Check.transfer run equal
        return-fine r P F W L =
            then-second _ _ (list-in s here.bound refl e L z)
            (then-second _ _ (need-holds No.count _ (counted W)) (need-holds No.nesting _ (rw r)))

  -- if
  module _ {r : Optional ℕ} (e : r ≡ seen_as (all (holds here.bound) (uses (expression_at s at))) (expression_end s at)) where
    pub if-unbound : r ≡ None → Judges s places here (if_at s at) (fails No.unbound)
    unfolding InTransfer Check.transfer Check.bound
    if-unbound z P F W L =
        let out = seen-out (all (holds here.bound) (uses (expression_at s at))) (expression_end s at) e z in
        then-first _ _ (need-fails No.unbound _ (sym (all-has here.bound _ L) ∙ out))

    module _ {k b : ℕ} (t : Target) (z : r ≡ Some k) (d : b ≡ byte_at s k) (h : Targets s places here.f b t) where
      seen : (all (holds here.bound) (uses (expression_at s at)) ≡ true) × (k ≡ expression_end s at)
      seen = seen-in (all (holds here.bound) (uses (expression_at s at))) (expression_end s at) e z

      bound : Temporaries (uses (expression_at s at)) → fault (Check.bound here.bound (uses (expression_at s at))) ≡ none
      unfolding Check.bound
      bound L = need-holds No.unbound _ (sym (all-has here.bound _ L) ∙ seen.0)

      first : b ≡ byte_at s (expression_end s at)
      first = rw (← seen.1) d

      pub if-missing : t ≡ None → Judges s places here (if_at s at) (fails No.missing)
      unfolding InTransfer Check.transfer
      if-missing y P F W L = then-second _ _ (bound L) (given-fails _ _ _ (no_target s places here.f t first h W y))

      module _ {o : Opening} {j c : ℕ} (w : Target) (y : t ≡ Some o) (q : j ≡ past k 1) (i : c ≡ byte_at s j)
          (g : Targets s places here.f c w) where
        second : c ≡ byte_at s (past (expression_end s at) 1)
        second = rw (← seen.1, ← q) i

        pub if-missing-2 : w ≡ None → Judges s places here (if_at s at) (fails No.missing)
        unfolding InTransfer Check.transfer
        if-missing-2 x P F W L =
            then-second _ _ (bound L)
            (given-goes _ _ _ (the-target s places here.f t first h W y)
            (given-fails _ _ _ (no_target s places here.f w second g W x)))

        pub if-both : {l : Opening} (v : Verdict) → w ≡ Some l → Both s here o 0 l 0 v → Judges s places here (if_at s at) v
        unfolding InTransfer Check.transfer
        if-both v x a P F W L =
            then-second _ _ (bound L)
            (given-goes _ _ _ (the-target s places here.f t first h W y)
            (given-goes _ _ _ (the-target s places here.f w second g W x) a))

  -- spork and spoin: a target, and a byte behind its name
  module _ {b : ℕ} (t : Target) (d : b ≡ byte_at s at) (h : Targets s places here.f b t) where
    pub spork-missing : t ≡ None → Judges s places here (spork_at s at) (fails No.missing)
    unfolding Check.transfer
    spork-missing y P F W L = given-fails _ _ _ (no_target s places here.f t d h W y)

    pub spoin-missing : t ≡ None → Judges s places here (spoin_at s at) (fails No.missing)
    unfolding Check.transfer
    spoin-missing y P F W L = given-fails _ _ _ (no_target s places here.f t d h W y)

    module _ {o : Opening} {j c : ℕ} (y : t ≡ Some o) (q : j ≡ past at 1) (i : c ≡ byte_at s j) where
      behind : c ≡ byte_at s (past at 1)
      behind = rw (← q) i

      module _ {r : Place} (g : FindsSpawn places here.f c r) where
        pub spork-unknown : r ≡ None → Judges s places here (spork_at s at) (fails No.missing)
        unfolding Check.transfer env
        spork-unknown z P F W L =
            given-goes _ _ _ (the-target s places here.f t d h W y)
            (given-fails _ _ _ (rw (← behind) (no-spawn s places here.f c g W z)))

        pub spork-grown : {k : ℕ} (v : Verdict) → r ≡ Some k → Grown s here o c v → Judges s places here (spork_at s at) v
        unfolding Check.transfer env
        spork-grown {k} v z a P F W L =
            let there : get_elem? F.spawns (byte_at s (past at 1)) ≡ some (spawn_at s k) =
            rw (← behind) (spawn-at s places here.f c g W z) in
            given-goes _ _ _ (the-target s places here.f t d h W y) (given-goes _ _ _ there (rw (← behind) a))

      module _ (w : Target) (g : Targets s places here.f c w) where
        pub spoin-missing-2 : w ≡ None → Judges s places here (spoin_at s at) (fails No.missing)
        unfolding Check.transfer
        spoin-missing-2 x P F W L =
            given-goes _ _ _ (the-target s places here.f t d h W y) (given-fails _ _ _ (no_target s places here.f w behind g W x))

        module _ {l : Opening} (x : w ≡ Some l) where
          pub spoin-bare : here.depth ≡ 0 → Judges s places here (spoin_at s at) (fails No.nesting)
          unfolding Check.transfer run unsnoc
          spoin-bare z P F W L =
              given-goes _ _ _ (the-target s places here.f t d h W y)
              (given-goes _ _ _ (the-target s places here.f w behind g W x) (given-fails _ _ _ (rw z)))

          module _ (front : ℕ) {k π : ℕ} (u : Callee) (z : here.depth ≡ front + 1) (small : here.nesting < 2 ^ 64)
              (p : k ≡ past here.nesting front) (a : π ≡ byte_at s k) (m : Spawns s places here.f π u) where
            innermost : unsnoc (nesting_of s here) ≡ some (record { front = run s here.nesting front; last = π })
            innermost = ap unsnoc (rw (z, a, p) (run-snoc s here.nesting front small)) ∙ unsnoc-snoc (run s here.nesting front) π

            pub spoin-unknown : u ≡ None → Judges s places here (spoin_at s at) (fails No.missing)
            unfolding Check.transfer of_given
            spoin-unknown f P F W L =
                given-goes _ _ _ (the-target s places here.f t d h W y)
                (given-goes _ _ _ (the-target s places here.f w behind g W x)
                (given-goes _ _ _ innermost (through (env P F) ((env P F).spawn π) _ ∙ rw (← m P F W, f))))

            pub spoin-both : {n r : ℕ} (v : Verdict) → u ≡ Some (n, r)
                → Both s (record { f = here.f; bound = here.bound; nesting = here.nesting; depth = front }) o 0 l r v
                → Judges s places here (spoin_at s at) v
            unfolding Check.transfer of_given
            spoin-both v f i P F W L =
                given-goes _ _ _ (the-target s places here.f t d h W y)
                (given-goes _ _ _ (the-target s places here.f w behind g W x)
                (given-goes _ _ _ innermost (through (env P F) ((env P F).spawn π) _ ∙ rw (← m P F W, f) i)))

-- the kind decides
pub by_kind : (s places : List ℕ) (here : Here) (at : ℕ) {kind j : Kind} {next : ℕ} (r : Verdict) {T : Transfer}
    → number_of kind ≡ min (byte_at s at) 5 → next ≡ past at 1 → kind ≡ j → transfer_of (number_of j) s next ≡ T
    → Judges s places here T r → Judges s places here (transfer_at s at) r
by_kind s places here at r e q z is h = rw (by-kind s at e q z, is) h
