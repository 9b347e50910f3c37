-- What the rules ask of a block's scope, and what it needs: a scope that passes suits; and a smaller one that suits passes too.
use Prim.Native.Nat.{ℕ, ◌<◌}
use mathlib.Core.Path.{◌≡◌, refl, sym, ◌∙◌}
use mathlib.Core.Logic.{inl, inr}
use mathlib.Core.Option.{Option, none, some}
use mathlib.Core.List.{List, [], ◌∷◌, ◌++◌}
use native.Mathlib.Decide.{ℕ_discrete}
use lib.ListN.{length, get_or, get_elem?}
use Rattle.model.specs.Lists.{Each}
use Rattle.model.specs.Sets.{with, with_all, below, ◌∈◌}
use Rattle.model.specs.Syntax.{Statement, Transfer, Head, Block, SpawnCall, Function, uses, targets}
use Rattle.model.specs.Limits.{InStatement, InTransfer, InBlock, InFunction, InSpawn}
use Rattle.model.specs.Pool.{temporaries}
use Rattle.model.specs.WellFormed.{Env, WF-cont, Callee, Spawned, WF-transfer, WF-code, Fresh, Nested, WF-block}
use Rattle.model.proofs.Facts.{each_map, each_both, each_at}
use Rattle.model.proofs.Sets.{Part, part-within, part-with, part-with_all, with-same, with-other, with-more}
use Rattle.model.proofs.Members.{has-below}
use Rattle.inference.specs.Infer.{used_by, arguments_of}
use Rattle.inference.specs.Filled.{Scoping, put}
use Rattle.inference.proofs.ScopesSets.{Among, within-part, part-absent, part_none}
use Rattle.inference.proofs.ScopesNeeds.{Brings, Spawns, Met, Suits}

-- Θ is what is in Γ or in Λ
record Joins (Γ Λ Θ : ℕ) : Type 0 where
  into : (x : ℕ) → x ∈ Θ → Among Γ Λ x
  from : (x : ℕ) → Among Γ Λ x → x ∈ Θ

-- at first, and with one more bound, and with all of a list
joins-none : (Λ : ℕ) → Joins 0 Λ Λ
joins-none Λ = record { into = λ x h. inr h; from = λ x m. from x m }
  where
    from : (x : ℕ) → Among 0 Λ x → x ∈ Λ
    from x (inl h) = (part_none Λ).each x h
    from x (inr h) = h

joins-with : {Γ Λ Θ : ℕ} (x : ℕ) → Joins Γ Λ Θ → Joins (with Γ x) Λ (with Θ x)
joins-with {Γ} {Λ} {Θ} x j = record { into = λ y h. into y h (ℕ_discrete y x); from = λ y m. from y m (ℕ_discrete y x) }
  where
    more : (y : ℕ) → Among Γ Λ y → Among (with Γ x) Λ y
    more y (inl h) = inl (with-more Γ x y h)
    more y (inr h) = inr h

    into : (y : ℕ) → y ∈ with Θ x → Dec (y ≡ x) → Among (with Γ x) Λ y
    into y h (yes e) = inl (rw e (with-same Γ x))
    into y h (no d) = more y (j.into y (rw (with-other Θ x y d) at h))

    from : (y : ℕ) → Among (with Γ x) Λ y → Dec (y ≡ x) → y ∈ with Θ x
    from y m (yes e) = rw e (with-same Θ x)
    from y (inl h) (no d) = with-more Θ x y (j.from y (inl (rw (with-other Γ x y d) at h)))
    from y (inr h) (no d) = with-more Θ x y (j.from y (inr h))

joins-all : {Γ Λ Θ : ℕ} (x̄ : List ℕ) → Joins Γ Λ Θ → Joins (with_all Γ x̄) Λ (with_all Θ x̄)
unfolding with_all
joins-all [] j = j
joins-all {Γ = Γ} (x ∷ x̄) j = joins-all {Γ = with Γ x} x̄ (joins-with x j)

-- the arguments of a spawn call that is there
spawn-arguments : (F : Function) (π Λ : ℕ) {S : SpawnCall} → get_elem? F.spawns π ≡ some S →
    Each (λ x. x ∈ Λ) S.arguments → Spawns F Λ π
unfolding arguments_of
spawn-arguments F π Λ e h = rw e h

arguments-spawn : (F : Function) (π Λ : ℕ) {S : SpawnCall} → get_elem? F.spawns π ≡ some S → Spawns F Λ π →
    Each (λ x. x ∈ Λ) S.arguments
unfolding arguments_of
arguments-spawn F π Λ {S} e h = rw e at h

-- A block that passes, in E, suits: its targets have scopes of which those of Γs are parts
module _ (F : Function) (E : Env) (Γs : List ℕ) (spawns : (π : ℕ) → E.spawn π ≡ get_elem? F.spawns π)
    (parts : (b : ℕ) (H : Head) → E.block b ≡ some H → Part (get_or Γs b 0) H.scope) where
  cont-brings : {Γ Λ Θ : ℕ} (ρ : List ℕ) (b r : ℕ) → Joins Γ Λ Θ → WF-cont E Θ ρ b r → Brings Γ Λ Γs b
  cont-brings ρ b r j k x h = j.into x ((part-within k.scoped).each x ((parts b k.head k.there).each x h))

  transfer-met : {Γ Λ Θ : ℕ} (ρ : List ℕ) (T : Transfer) → Joins Γ Λ Θ → WF-transfer E Θ ρ T → Met Γ Λ Γs [] T
  unfolding Met used_by targets WF-transfer
  transfer-met ρ (Transfer.goto b x̄) j w = (each_map j.into x̄ w.0, (cont-brings ρ b (length x̄) j w.1, tt))
  transfer-met ρ (Transfer.if e b c) j w =
      (each_map j.into (uses e) w.0, (cont-brings ρ b 0 j w.1, (cont-brings ρ c 0 j w.2, tt)))
  transfer-met ρ (Transfer.call g x̄ b) j w = (each_map j.into x̄ w.0, (cont-brings ρ b _ j w.1.1, tt))
  transfer-met ρ (Transfer.return x̄) j w = (each_map j.into x̄ w.0, tt)
  transfer-met ρ (Transfer.spork b π) j w = (tt, (cont-brings (ρ ++ (π ∷ [])) b 0 j w.1, tt))
  transfer-met ρ (Transfer.spoin b c) j w =
      let I = w.0 in
      (tt, (cont-brings I.front b 0 j w.1, (cont-brings I.front c I.callee.returns j w.2, tt)))

  code-met : {Γ Λ Θ : ℕ} (ρ : List ℕ) (C : List Statement) (T : Transfer) → Joins Γ Λ Θ → WF-code E Θ ρ C T → Met Γ Λ Γs C T
  unfolding Met WF-code
  code-met ρ [] T j w = transfer-met ρ T j w
  code-met {Γ = Γ} ρ (s ∷ C) T j w = (each_map j.into (uses s.source) w.0, code-met {Γ = with Γ s.target} ρ C T (joins-with s.target j) w.2)

  pub passing-suits : (g : Scoping) (B : Block) → WF-block E (put g B) → Suits F g.nesting Γs g.scope B
  unfolding put
  passing-suits g B w =
      record {
        spawns =
            each_map (λ π n. spawn-arguments F π g.scope (sym (spawns π) ∙ n.spawned.there) n.bound) g.nesting w.nested;
        code = code-met g.nesting B.code B.transfer (joins-all B.head.parameters (joins-none g.scope)) w.code;
      }

-- parameters outside a set are outside a part of it
fresh-part : {Γ Δ : ℕ} (x̄ : List ℕ) → Part Γ Δ → Fresh Δ x̄ → Fresh Γ x̄
unfolding Fresh
fresh-part [] p f = tt
fresh-part {Γ = Γ} (x ∷ x̄) p f = (part-absent x p f.0, fresh-part {Γ = with Γ x} x̄ (part-with x p) f.1)

-- a head with another scope
abbrev pub rescoped : ℕ → Head → Head
rescoped Γ H = record { parameters = H.parameters; scope = Γ; nesting = H.nesting }

-- Where what a block passes in has other scopes, those of Γs, a block with a smaller scope that suits passes
module _ (F : Function) (E : Env) (Γs : List ℕ) (spawns : (π : ℕ) → E.spawn π ≡ get_elem? F.spawns π)
    (block : ℕ → Option Head) (blocks : (b : ℕ) (H : Head) → E.block b ≡ some H → block b ≡ some (rescoped (get_or Γs b 0) H)) where
  abbrev pub inside : Env
  inside = record { block = block; spawn = E.spawn; function = E.function; own = E.own }

  abbrev spawned-inside : {π : ℕ} → Spawned E π → Spawned inside π
  spawned-inside s = record { call = s.call; there = s.there }

  abbrev callee-inside : {g n : ℕ} → Callee E g n → Callee inside g n
  callee-inside k = record { signature = k.signature; there = k.there; takes = k.takes }

  cont-inside : {Γ Λ Θ Ψ : ℕ} {ρ : List ℕ} {b r : ℕ} → Joins Γ Λ Θ → Brings Γ Λ Γs b → WF-cont E Ψ ρ b r → WF-cont inside Θ ρ b r
  cont-inside {b} j f k =
      record {
        head = rescoped (get_or Γs b 0) k.head;
        there = blocks b k.head k.there;
        takes = k.takes;
        nests = k.nests;
        scoped = within-part (record { each = λ x h. j.from x (f x h) });
      }

  transfer-inside : {Γ Λ Θ : ℕ} (Ψ : ℕ) (ρ : List ℕ) (T : Transfer) → Joins Γ Λ Θ → Met Γ Λ Γs [] T → WF-transfer E Ψ ρ T →
      WF-transfer inside Θ ρ T
  unfolding Met used_by targets WF-transfer
  transfer-inside Ψ ρ (Transfer.goto b x̄) j m w = (each_map j.from x̄ m.0, cont-inside j m.1.0 w.1)
  transfer-inside Ψ ρ (Transfer.if e b c) j m w =
      (each_map j.from (uses e) m.0, cont-inside j m.1.0 w.1, cont-inside j m.1.1.0 w.2)
  transfer-inside Ψ ρ (Transfer.call g x̄ b) j m w =
      (each_map j.from x̄ m.0, (callee-inside w.1.0, cont-inside j m.1.0 w.1.1))
  transfer-inside Ψ ρ (Transfer.return x̄) j m w = (each_map j.from x̄ m.0, w.1, w.2)
  transfer-inside Ψ ρ (Transfer.spork b π) j m w = (spawned-inside w.0, cont-inside j m.1.0 w.1)
  transfer-inside Ψ ρ (Transfer.spoin b c) j m w =
      let I = w.0 in (
        record {
          front = I.front;
          last = I.last;
          is = I.is;
          spawned = spawned-inside I.spawned;
          callee = I.callee;
          there = I.there;
        },
        cont-inside j m.1.0 w.1,
        cont-inside j m.1.1.0 w.2,
      )

  code_inside : {Γ Λ Θ Ψ : ℕ} (ρ : List ℕ) (C : List Statement) (T : Transfer) → Joins Γ Λ Θ → Part Θ Ψ → Met Γ Λ Γs C T →
      WF-code E Ψ ρ C T → WF-code inside Θ ρ C T
  unfolding Met WF-code
  code_inside {Ψ} ρ [] T j p m w = transfer-inside Ψ ρ T j m w
  code_inside {Γ = Γ} ρ (s ∷ C) T j p m w =
      let x = s.target in (
        each_map j.from (uses s.source) m.0,
        part-absent x p w.1,
        code_inside {Γ = with Γ s.target} ρ C T (joins-with x j) (part-with x p) m.1 w.2,
      )

  pub suits-passing : (g : Scoping) (Λ : ℕ) (B : Block) → Part Λ g.scope → Suits F g.nesting Γs Λ B → WF-block E (put g B) →
      WF-block inside (put (record { scope = Λ; nesting = g.nesting }) B)
  unfolding put
  suits-passing g Λ B p s w =
      let x̄ = B.head.parameters in
      record {
        fresh = fresh-part x̄ p w.fresh;
        nested =
            each_map
            (λ π h.
            record {
              spawned = spawned-inside h.0.spawned;
              bound = arguments-spawn F π Λ (sym (spawns π) ∙ h.0.spawned.there) h.1;
            })
            g.nesting (each_both (Nested E g.scope) (Spawns F Λ) g.nesting w.nested s.spawns);
        code =
            code_inside g.nesting B.code B.transfer (joins-all x̄ (joins-none Λ)) (part-with_all x̄ p) s.code w.code;
      }

-- what holds of every number holds of each of a list
every : {Q : ℕ → Type 0} → ((x : ℕ) → Q x) → (xs : List ℕ) → Each Q xs
every f [] = tt
every f (x ∷ xs) = (f x, every f xs)

-- the temporaries that there are suit every block within its limits
module _ (F : Function) (L : InFunction F) (Γs : List ℕ) (small : (b : ℕ) → Part (get_or Γs b 0) (below temporaries)) where
  temporary : (Γ x : ℕ) → x < temporaries → Among Γ (below temporaries) x
  temporary Γ x h = inr (has-below temporaries x h)

  brings-all : (Γ b : ℕ) → Brings Γ (below temporaries) Γs b
  brings-all Γ b x h = inr ((small b).each x h)

  transfer-small : (Γ : ℕ) (T : Transfer) → InTransfer T → Met Γ (below temporaries) Γs [] T
  unfolding Met used_by targets InTransfer
  transfer-small Γ (Transfer.goto b x̄) l = (each_map (temporary Γ) x̄ l.each, (brings-all Γ b, tt))
  transfer-small Γ (Transfer.if e b c) l = (each_map (temporary Γ) (uses e) l, (brings-all Γ b, (brings-all Γ c, tt)))
  transfer-small Γ (Transfer.call g x̄ b) l = (each_map (temporary Γ) x̄ l.each, (brings-all Γ b, tt))
  transfer-small Γ (Transfer.return x̄) l = (each_map (temporary Γ) x̄ l.each, tt)
  transfer-small Γ (Transfer.spork b π) l = (tt, (brings-all Γ b, tt))
  transfer-small Γ (Transfer.spoin b c) l = (tt, (brings-all Γ b, (brings-all Γ c, tt)))

  code-small : (Γ : ℕ) (C : List Statement) (T : Transfer) → Each InStatement C → InTransfer T → Met Γ (below temporaries) Γs C T
  unfolding Met
  code-small Γ [] T c l = transfer-small Γ T l
  code-small Γ (s ∷ C) T c l =
      (each_map (temporary Γ) (uses s.source) c.0.source, code-small (with Γ s.target) C T c.1 l)

  spawns-small : (π : ℕ) → Spawns F (below temporaries) π
  unfolding arguments_of
  spawns-small π = go (get_elem? F.spawns π) refl
    where
      go : (o : Option SpawnCall) → get_elem? F.spawns π ≡ o → Each (λ x. x ∈ below temporaries) (arguments_of o)
      go none e = tt
      go (some S) e = each_map (has-below temporaries) S.arguments (each_at InSpawn F.spawns π L.spawns e).each

  pub small-suits : (ρ : List ℕ) (B : Block) → InBlock B → Suits F ρ Γs (below temporaries) B
  small-suits ρ B l =
      record {
        spawns = every spawns-small ρ;
        code = code-small (with_all 0 B.head.parameters) B.code B.transfer l.code l.transfer;
      }
