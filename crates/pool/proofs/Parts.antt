-- Words in three parts: a paste replaces the middle one. Stores, moves and clears are pastes; a gap is opened, and closed.
use Prim.Native.Nat.{ℕ, suc, ◌+◌, ◌≤◌, ◌<◌}
use mathlib.Core.Path.{◌≡◌, refl, sym, ap, ◌∙◌}
use mathlib.Core.List.{List, [], ◌∷◌, ◌++◌, append_assoc, append-nil}
use native.Mathlib.Omega.{arith}
use lib.IntN.{ℤ, pos}
use lib.ListN.{length, take, drop, set, replicate, length-append, length-drop, length-set, length-replicate, take-append-drop}
use lib.ListN.{replicate-append-replicate}
use lib.Seq.{take_at, drop_at, drop-drop, length-take-le, set-append_left, take-append-le, drop-append-le}
use Rattle.words.specs.Runs.{pasted, moved, cleared}

abbrev pub zeros : ℕ → List ℤ
zeros n = replicate n (pos 0)

-- what stands in the middle
pub middle : (pre mid post : List ℤ) (at n : ℕ) → length pre ≡ at → length mid ≡ n → take n (drop at (pre ++ (mid ++ post))) ≡ mid
middle pre mid post at n e f = rw (drop_at pre (mid ++ post) at e) (take_at mid post n f)

behind : (pre mid post : List ℤ) (at n : ℕ) → length pre ≡ at → length mid ≡ n → drop (at + n) (pre ++ (mid ++ post)) ≡ post
behind pre mid post at n e f =
    sym (drop-drop n at (pre ++ (mid ++ post))) ∙ ap (drop n) (drop_at pre (mid ++ post) at e) ∙ drop_at mid post n f

-- a paste in the middle of three parts
pub paste-parts : (pre mid post ws : List ℤ) (at : ℕ) → length pre ≡ at → length mid ≡ length ws
    → pasted (pre ++ (mid ++ post)) at ws ≡ pre ++ (ws ++ post)
unfolding pasted
paste-parts pre mid post ws at e f =
    rw (take_at pre (mid ++ post) at e, behind pre mid post at (length ws) e f) (append_assoc pre ws post)

-- a list as three parts
pub parts : (d : List ℤ) (at n : ℕ) → d ≡ take at d ++ (take n (drop at d) ++ drop (at + n) d)
parts d at n =
    sym
    (ap (λ (l : List ℤ). take at d ++ (take n (drop at d) ++ l)) (sym (drop-drop n at d))
    ∙ ap (λ (l : List ℤ). take at d ++ l) (take-append-drop n (drop at d))
    ∙ take-append-drop at d)

-- a paste within the middle part
pub paste-within : (pre mid post ws : List ℤ) (at off : ℕ) → length pre ≡ at → off + length ws ≤ length mid
    → pasted (pre ++ (mid ++ post)) (at + off) ws ≡ pre ++ (pasted mid off ws ++ post)
unfolding pasted
paste-within pre mid post ws at off e h =
    let a : List ℤ = take off mid in
    let m : List ℤ = take (length ws) (drop off mid) in
    let r : List ℤ = drop (off + length ws) mid in
    let f : length a ≡ off = length-take-le off mid (omega arith) in
    let g : length m ≡ length ws = length-take-le (length ws) (drop off mid) (simp length-drop (omega arith)) in
    ap (λ (l : List ℤ). pasted (pre ++ (l ++ post)) (at + off) ws) (parts mid off (length ws))
    ∙ ap (λ (l : List ℤ). pasted l (at + off) ws) (simp append_assoc)
    ∙ paste-parts (pre ++ a) m (r ++ post) ws (at + off) (simp length-append (omega arith)) g
    ∙ whole a r
  where
    whole : (a r : List ℤ) → (pre ++ a) ++ (ws ++ (r ++ post)) ≡ pre ++ (a ++ ws ++ r ++ post)
    whole a r = simp append_assoc

-- what stands within the middle part
pub read-within : (pre mid post : List ℤ) (at off n : ℕ) → length pre ≡ at → off + n ≤ length mid
    → take n (drop (at + off) (pre ++ (mid ++ post))) ≡ take n (drop off mid)
read-within pre mid post at off n e h =
    let l : n ≤ length (drop off mid) = simp length-drop (omega arith) in
    ap (take n) (sym (drop-drop off at (pre ++ (mid ++ post))))
    ∙ ap (λ (d : List ℤ). take n (drop off d)) (drop_at pre (mid ++ post) at e)
    ∙ ap (take n) (drop-append-le off mid post (omega arith))
    ∙ take-append-le n (drop off mid) post l

-- a paste over another
pub paste-again : (d xs ys : List ℤ) (at : ℕ) → length xs ≡ length ys → at + length xs ≤ length d
    → pasted (pasted d at xs) at ys ≡ pasted d at ys
unfolding pasted
paste-again d xs ys at e h =
    ap (λ (w : List ℤ). pasted w at ys) (append_assoc (take at d) xs (drop (at + length xs) d))
    ∙ paste-parts (take at d) xs (drop (at + length xs) d) ys at (length-take-le at d (omega arith)) e
    ∙ ap (λ (m : ℕ). take at d ++ (ys ++ drop (at + m) d)) e
    ∙ sym (append_assoc (take at d) ys (drop (at + length ys) d))

-- a paste over everything
pub paste_all : (d ws : List ℤ) → length d ≡ length ws → pasted d 0 ws ≡ ws
paste_all d ws e =
    ap (λ (l : List ℤ). pasted l 0 ws) (sym (append-nil d)) ∙ paste-parts [] d [] ws 0 refl e ∙ append-nil ws

-- a store behind a part
pub set-behind : (pre l : List ℤ) (at j : ℕ) (x : ℤ) → length pre ≡ at → set (pre ++ l) (at + j) x ≡ pre ++ set l j x
set-behind pre l at j x e = rw (sym e) (go pre)
  where
    go : (p : List ℤ) → set (p ++ l) (length p + j) x ≡ p ++ set l j x
    go [] = let z : 0 + j ≡ j = omega arith in rw z
    go (y ∷ p) =
        let s : suc (length p) + j ≡ suc (length p + j) = omega arith in
        rw s (ap {B = List ℤ} (λ m. y ∷ m) (go p))

-- a store in what was put
pub set-in-pasted : (d ws : List ℤ) (at j : ℕ) (x : ℤ) → at + length ws ≤ length d → j < length ws
    → set (pasted d at ws) (at + j) x ≡ pasted d at (set ws j x)
unfolding pasted
set-in-pasted d ws at j x h l =
    let r : List ℤ = drop (at + length ws) d in
    ap (λ (w : List ℤ). set w (at + j) x) (append_assoc (take at d) ws r)
    ∙ set-behind (take at d) (ws ++ r) at j x (length-take-le at d (omega arith))
    ∙ ap (λ (w : List ℤ). take at d ++ w) (set-append_left ws r j x l)
    ∙ ap (λ (m : ℕ). take at d ++ (set ws j x ++ drop (at + m) d)) (sym (length-set ws j x))
    ∙ sym (append_assoc (take at d) (set ws j x) (drop (at + length (set ws j x)) d))

-- a clear and a move are pastes
pub cleared-pasted : (d : List ℤ) (at n : ℕ) → cleared d at n ≡ pasted d at (zeros n)
unfolding pasted cleared
cleared-pasted d at n = rw (length-replicate n (pos 0))

pub moved-pasted : (d : List ℤ) (from to n : ℕ) → from + n ≤ length d → moved d from to n ≡ pasted d to (take n (drop from d))
unfolding pasted moved
moved-pasted d from to n h =
    let e : length (take n (drop from d)) ≡ n = length-take-le n (drop from d) (simp length-drop (omega arith)) in
    rw e

-- a gap of s words is opened before b, and filled by y: the words behind b were free
pub gap-opened : (pre b y : List ℤ) (at to s z : ℕ) → length pre ≡ at → to ≡ at + s → length y ≡ s
    → pasted (moved (pre ++ (b ++ zeros (s + z))) at to (length b)) at y ≡ pre ++ (y ++ (b ++ zeros z))
gap-opened pre b y at to s z e f g =
    let R : List ℤ = b ++ zeros (s + z) in
    let X : List ℤ = take s R in
    let M : List ℤ = take (length b) (drop s R) in
    let r : List ℤ = drop (s + length b) R in
    let long : length R ≡ length b + (s + z) = simp (length-append, length-replicate) in
    let x : length X ≡ s = length-take-le s R (omega arith) in
    let m : length M ≡ length b = length-take-le (length b) (drop s R) (simp length-drop (omega arith)) in
    let l : at + length b ≤ length (pre ++ R) = simp length-append (omega arith) in
    let n : s + length b ≡ length b + s = omega arith in
    let q : r ≡ zeros z =
    ap (λ (k : ℕ). drop k R) n
    ∙ ap (λ (w : List ℤ). drop (length b + s) (b ++ w)) (sym (replicate-append-replicate s z (pos 0)))
    ∙ behind b (zeros s) (zeros z) (length b) s refl (length-replicate s (pos 0))
    in
    let moves : moved (pre ++ R) at to (length b) ≡ pre ++ (X ++ (b ++ r)) =
    moved-pasted (pre ++ R) at to (length b) l
    ∙ ap (pasted (pre ++ R) to) (middle pre b (zeros (s + z)) at (length b) e refl)
    ∙ ap (λ (w : List ℤ). pasted (pre ++ w) to b) (parts R s (length b))
    ∙ ap (λ (w : List ℤ). pasted w to b) (sym (append_assoc pre X (M ++ r)))
    ∙ paste-parts (pre ++ X) M r b to (simp length-append (omega arith)) m
    ∙ append_assoc pre X (b ++ r)
    in
    ap (λ (w : List ℤ). pasted w at y) moves
    ∙ paste-parts pre X (b ++ r) y at e (x ∙ sym g)
    ∙ ap (λ (w : List ℤ). pre ++ (y ++ (b ++ w))) q

-- the s words before b go, and as many behind it are free
pub gap-closed : (pre x b : List ℤ) (at from end s z : ℕ) → length pre ≡ at → length x ≡ s → from ≡ at + s → end ≡ at + length b
    → cleared (moved (pre ++ (x ++ (b ++ zeros z))) from at (length b)) end s ≡ pre ++ (b ++ zeros (s + z))
gap-closed pre x b at from end s z e f g h =
    let R : List ℤ = x ++ (b ++ zeros z) in
    let M : List ℤ = take (length b) R in
    let r : List ℤ = drop (length b) R in
    let long : length R ≡ s + (length b + z) = simp (length-append, length-replicate) (omega arith) in
    let m : length M ≡ length b = length-take-le (length b) R (omega arith) in
    let l : from + length b ≤ length (pre ++ R) = simp length-append (omega arith) in
    let k : length (take s r) ≡ s = length-take-le s r (simp length-drop (omega arith)) in
    let n : length b + s ≡ s + length b = omega arith in
    let there : take (length b) (drop from (pre ++ R)) ≡ b =
    ap (λ (w : List ℤ). take (length b) (drop from w)) (sym (append_assoc pre x (b ++ zeros z)))
    ∙ middle (pre ++ x) b (zeros z) from (length b) (simp length-append (omega arith)) refl
    in
    let moves : moved (pre ++ R) from at (length b) ≡ pre ++ (b ++ r) =
    moved-pasted (pre ++ R) from at (length b) l
    ∙ ap (pasted (pre ++ R) at) there
    ∙ ap (λ (w : List ℤ). pasted (pre ++ w) at b) (sym (take-append-drop (length b) R))
    ∙ paste-parts pre M r b at e m
    in
    let rest : drop s r ≡ zeros z =
    drop-drop s (length b) R
    ∙ ap (λ (j : ℕ). drop j R) n
    ∙ behind x b (zeros z) s (length b) f refl
    in
    ap (λ (w : List ℤ). cleared w end s) moves
    ∙ cleared-pasted (pre ++ (b ++ r)) end s
    ∙ ap (λ (w : List ℤ). pasted (pre ++ (b ++ w)) end (zeros s)) (sym (take-append-drop s r))
    ∙ ap (λ (w : List ℤ). pasted w end (zeros s)) (sym (append_assoc pre b (take s r ++ drop s r)))
    ∙ paste-parts (pre ++ b) (take s r) (drop s r) (zeros s) end (simp length-append (omega arith)) (k ∙ sym (length-replicate s (pos 0)))
    ∙ append_assoc pre b (zeros s ++ drop s r)
    ∙ ap (λ (w : List ℤ). pre ++ (b ++ (zeros s ++ w))) rest
    ∙ ap (λ (w : List ℤ). pre ++ (b ++ w)) (replicate-append-replicate s z (pos 0))
