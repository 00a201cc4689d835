-- Bytes written from a place on. Assumes nothing.
use mathlib.Core.Path.{◌≡◌, refl, sym, ap, ◌∙◌}
use mathlib.Core.List.{List, [], ◌∷◌, ◌++◌, append_assoc, append-nil}
use mathlib.Core.Logic.{◌⊎◌, inr, ⊎_elim}
use Prim.Native.Nat.{ℕ, zero, suc, ◌+◌, ◌*◌, ◌/◌, ◌%◌, ◌^◌, ◌<◌, ◌≤◌}
use native.Mathlib.Nat.{add-zero, add-suc, add_assoc, pow-suc, one-le-pow, le_refl}
use native.Mathlib.Numerals.{add-one}
use native.Mathlib.Omega.{arith}
use lib.IntN.{ℤ, pos, negsuc, nat_abs}
use lib.Signed.{lt_z}
use mathlib.Core.Bool.{true, false}
use borrow.Author.Tests.{ltb-true}
use lib.ListN.{length, drop, take, set, length-set, length-append, length-drop, take-append-drop}
use lib.Seq.{drop-cons, drop-set-lt, take-set-le, get_or-set_same, append_snoc, length-take-le, take_at, drop-append-add, drop-drop, set_split}
use Rattle.text.specs.Text.{limit, decimal, digits, row_text, value_text, after}
use Rattle.text.specs.Write.{stamp, stamped, digits_of, cell_text, four_text, five_text}
use Rattle.text.proofs.Read.{below}
use Rattle.text.proofs.Decimal.{small, large}

-- a number of suc k digits
pub width_is : (k n v : ℕ) → k ≤ n → (k ≡ 0) ⊎ (10 ^ k ≤ v) → v < 10 ^ suc k → length (decimal (suc n) v) ≡ suc k
width_is zero n v h l u = let u' : v < 10 = u in ap length (small n v u')
width_is (suc k) zero v h l u = absurd (omega arith)
width_is (suc k) (suc n) v h l u =
    let l' : 10 ^ suc k ≤ v = ⊎_elim (λ e. absurd (omega arith)) (λ x. x) l in
    let p = pow-suc 10 k in
    let p' = pow-suc 10 (suc k) in
    let o : 1 ≤ 10 ^ k = one-le-pow k 10 (omega arith) in
    ap length (large (suc n) v (omega arith)) ∙ length-append (decimal (suc n) (v / 10)) ((48 + v % 10) ∷ [])
    ∙ omega (arith, width_is k n (v / 10) (omega arith) (inr (omega arith)) (omega arith))

-- the digits of v are its last digits
digits_one : (n v : ℕ) → v < 10 → digits_of (length (decimal (suc n) v)) v ≡ decimal (suc n) v
unfolding digits_of
digits_one n v h = let m : v % 10 ≡ v = omega arith in rw (small n v h, m)

pub digits_of_law : (n v : ℕ) → v < 10 ^ suc n → digits_of (length (decimal (suc n) v)) v ≡ decimal (suc n) v
unfolding digits_of
digits_of_law zero v h = let h' : v < 10 = h in digits_one 0 v h'
digits_of_law (suc n) v h =
    ⊎_elim
    (λ h'. digits_one (suc n) v h')
    (λ h'.
    let x = decimal (suc n) (v / 10) in
    let d = 48 + v % 10 in
    let q : v / 10 < 10 ^ suc n = omega (arith, pow-suc 10 (suc n)) in
    let w : length (x ++ d ∷ []) ≡ suc (length x) = length-append x (d ∷ []) ∙ add-one (length x) in
    rw (large (suc n) v h', w) (ap (λ l. l ++ d ∷ []) (digits_of_law n (v / 10) q)))
    (below v 10)

-- what stands from a place on after a store there
drop_set_here : (l : List ℕ) (i a : ℕ) → i < length l → drop i (set l i a) ≡ a ∷ drop (suc i) l
drop_set_here l i a h =
    drop-cons (set l i a) i 0 (omega (arith, length-set l i a))
    ∙ ap (λ x. x ∷ drop (suc i) (set l i a)) (get_or-set_same l i a 0 h)
    ∙ ap (λ t. a ∷ t) (drop-set-lt (suc i) l i a (omega arith))

stamped_is : (w at v : ℕ) (out : List ℕ) → at + w ≤ length out → stamped w at v out ≡ take at out ++ digits_of w v ++ drop (at + w) out
unfolding stamped digits_of
stamped_is zero at v out h = rw (add-zero, append-nil) (sym (take-append-drop at out))
stamped_is (suc w) at v out h =
    let d = 48 + v % 10 in
    let l = set out (at + w) d in
    stamped_is w at (v / 10) l (omega (arith, length-set out (at + w) d))
    ∙ rw (take-set-le at out (at + w) d (omega arith), drop_set_here out (at + w) d (omega arith), add-suc)
    (sym (append_snoc (take at out ++ digits_of w (v / 10)) d (drop (suc (at + w)) out))
    ∙ ap (λ t. t ++ drop (suc (at + w)) out) (append_assoc (take at out) (digits_of w (v / 10)) (d ∷ [])))

pub put_digits : (at v : ℕ) (out : List ℕ) → v ≤ limit → at + length (digits v) ≤ length out → stamped (length (digits v)) at v out ≡ stamp at (digits v) out
put_digits at v out l h =
    stamped_is (length (digits v)) at v out h ∙ ap (λ x. take at out ++ x ++ drop (at + length (digits v)) out) (digits_of_law 9 v (omega arith))

-- ---- one after the other

pub length_stamp : (at : ℕ) (l out : List ℕ) → at + length l ≤ length out → length (stamp at l out) ≡ length out
length_stamp at l out h =
    length-append (take at out ++ l) (drop (at + length l) out)
    ∙ omega (arith, length-append (take at out) l, length-take-le at out (omega arith), length-drop (at + length l) out)

pub stamp_more : (at : ℕ) (l m out : List ℕ) → at + length l ≤ length out → stamp (at + length l) m (stamp at l out) ≡ stamp at (l ++ m) out
stamp_more at l m out h =
    let x = take at out ++ l in
    let r = drop (at + length l) out in
    let n : length x ≡ at + length l = length-append (take at out) l ∙ ap (λ y. y + length l) (length-take-le at out (omega arith)) in
    let t : take (at + length l) (x ++ r) ≡ x = take_at x r (at + length l) n in
    let d : drop (at + length l + length m) (x ++ r) ≡ drop (length m) r =
    ap (λ y. drop (y + length m) (x ++ r)) (sym n) ∙ drop-append-add x r (length m) in
    let e : drop (length m) r ≡ drop (at + length (l ++ m)) out =
    drop-drop (length m) (at + length l) out ∙ ap (λ y. drop y out) (add_assoc at (length l) (length m) ∙ ap (λ y. at + y) (sym (length-append l m))) in
    rw (t, d, e) (ap (λ y. y ++ drop (at + length (l ++ m)) out) (append_assoc (take at out) l m))

pub stamp_one : (at : ℕ) (b : ℕ) (out : List ℕ) → at < length out → set out at b ≡ stamp at (b ∷ []) out
stamp_one at b out h = set_split out at b h ∙ sym (append_snoc (take at out) b (drop (suc at) out)) ∙ ap (λ y. take at out ++ (b ∷ []) ++ drop y out) (sym (add-one at))

-- ---- cells and lines

pub width_le : (n v : ℕ) → length (decimal n v) ≤ n
unfolding decimal
width_le zero v = le_refl 0
width_le (suc n) v =
    ⊎_elim
    (λ h. omega (arith, ap length (small n v h)))
    (λ h. omega (arith, ap length (large n v h), length-append (decimal n (v / 10)) ((48 + v % 10) ∷ []), width_le n (v / 10)))
    (below v 10)

pub cell_length : (v c : ℕ) → length (cell_text v c) ≡ length (digits v) + 1
cell_length v c = length-append (digits v) (c ∷ [])

-- the lines of values are such texts
pub two_row : (a b : ℕ) → row_text (pos a ∷ pos b ∷ []) ≡ cell_text a 32 ++ cell_text b 10
unfolding row_text value_text after
two_row a b = sym (append_snoc (digits a) 32 (cell_text b 10))

pub three_row : (a b c : ℕ) → row_text (pos a ∷ pos b ∷ pos c ∷ []) ≡ cell_text a 32 ++ (cell_text b 32 ++ cell_text c 10)
unfolding row_text value_text after
three_row a b c = rw (append_snoc (digits a) 32 (cell_text b 32 ++ cell_text c 10), append_snoc (digits b) 32 (cell_text c 10))

pub four_row : (a b c d : ℕ) → row_text (pos a ∷ pos b ∷ pos c ∷ pos d ∷ []) ≡ four_text a b c d 10
unfolding row_text value_text after
four_row a b c d =
    rw (append_snoc (digits a) 32 (cell_text b 32 ++ (cell_text c 32 ++ cell_text d 10)), append_snoc (digits b) 32 (cell_text c 32 ++ cell_text d 10), append_snoc (digits c) 32 (cell_text d 10))

pub five_row : (a b c d : ℕ) (v : ℤ) → row_text (pos a ∷ pos b ∷ pos c ∷ pos d ∷ v ∷ []) ≡ five_text a b c d v
unfolding row_text value_text after
five_row a b c d v = simp (append_assoc)

pub four_length : (a b c d e : ℕ) → length (four_text a b c d e) ≡ length (cell_text a 32) + length (cell_text b 32) + length (cell_text c 32) + length (cell_text d e)
four_length a b c d e =
    omega (arith, length-append (cell_text a 32) (cell_text b 32 ++ (cell_text c 32 ++ cell_text d e)), length-append (cell_text b 32) (cell_text c 32 ++ cell_text d e), length-append (cell_text c 32) (cell_text d e))

pub five_length : (a b c d : ℕ) (v : ℤ) → length (five_text a b c d v) ≡ length (four_text a b c d 32) + length (value_text v) + 1
five_length a b c d v = omega (arith, length-append (four_text a b c d 32) (value_text v ++ 10 ∷ []), length-append (value_text v) (10 ∷ []))

pub four_bound : (a b c d e : ℕ) → length (four_text a b c d e) ≤ 44
four_bound a b c d e =
    omega (
      arith,
      four_length a b c d e,
      cell_length a 32,
      cell_length b 32,
      cell_length c 32,
      cell_length d e,
      width_le 10 a,
      width_le 10 b,
      width_le 10 c,
      width_le 10 d,
    )

-- l was written from `at` on, and p is the place past it
pub record Put (at p : ℕ) (l out out' : List ℕ) : Type 0 where
  pub room : at + length l ≤ length out
  pub next : p ≡ at + length l
  pub bytes : out' ≡ stamp at l out

pub put_length : {at p : ℕ} {l out out' : List ℕ} → Put at p l out out' → length out' ≡ length out
put_length {at} {p} {l} {out} h = ap length h.bytes ∙ length_stamp at l out h.room

pub put_more : {at p q : ℕ} {l m out out' out'' : List ℕ} → Put at p l out out' → Put p q m out' out'' → Put at q (l ++ m) out out''
put_more {at} {p} {q} {l} {m} {out} {out'} {out''} h i =
    let e = put_length h in
    let n = length-append l m in
    let hr = h.room in
    let hn = h.next in
    let ir = i.room in
    let in' = i.next in
    record {
      room = omega (arith, n, e, hn, ir);
      next = omega (arith, n, hn, in');
      bytes = i.bytes ∙ ap (λ x. stamp x m out') hn ∙ ap (stamp (at + length l) m) h.bytes ∙ stamp_more at l m out hr;
    }

pub put_byte : (p b : ℕ) (out : List ℕ) → p < length out → Put p (p + 1) (b ∷ []) out (set out p b)
put_byte p b out h = record { room = omega arith; next = refl; bytes = stamp_one p b out h }

pub stamp_none : (at : ℕ) (out : List ℕ) → stamp at [] out ≡ out
stamp_none at out = rw (append-nil, add-zero) (take-append-drop at out)

-- what is left to write, after a part of it was written
pub left_after : {at p : ℕ} {l out out' : List ℕ} (m : List ℕ) → Put at p l out out' → stamp p m out' ≡ stamp at (l ++ m) out
left_after {at} {p} {l} {out} {out'} m h = (λ i. stamp (h.next i) m (h.bytes i)) ∙ stamp_more at l m out h.room

-- ---- signed values

pub text_negative : (v : ℤ) → lt_z v (pos 0) ≡ true → value_text v ≡ 45 ∷ digits (nat_abs v)
unfolding value_text
text_negative (pos n) e = absurd (omega (arith, ltb-true n 0 e))
text_negative (negsuc n) e = refl

pub text_positive : (v : ℤ) → lt_z v (pos 0) ≡ false → value_text v ≡ digits (nat_abs v)
unfolding value_text
text_positive (pos n) e = refl
text_positive (negsuc n) e = absurd (let z : ◌≡◌ {A = ℕ} 0 1 = cc in omega arith)

pub value_length : (v : ℤ) → length (value_text v) ≤ 11
unfolding value_text
value_length (pos n) = omega (arith, width_le 10 n)
value_length (negsuc n) = omega (arith, width_le 10 (suc n))

pub row_most : (vs : List ℤ) → length (row_text vs) ≤ 12 * length vs
unfolding row_text
row_most [] = omega arith
row_most (v ∷ vs) = omega (arith, length-append (value_text v) (after vs ∷ row_text vs), value_length v, row_most vs)

-- written from the front
pub stamp_front : (l out : List ℕ) → stamp 0 l out ≡ l ++ drop (length l) out
stamp_front l out = let z : 0 + length l ≡ length l = omega arith in ap (λ (n : ℕ). l ++ drop n out) z
