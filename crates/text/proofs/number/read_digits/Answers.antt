-- `text::number::read_digits` meets its contract. Assumes nothing.
use mathlib.Core.Path.{◌≡◌, sym, ap, ◌∙◌}
use mathlib.Core.List.{List}
use Rattle.std.specs.Prelude.{Some}
use Prim.Native.Nat.{ℕ, ◌-◌, ◌+◌, ◌*◌}
use native.Mathlib.Omega.{arith}
use borrow.Author.Tests.{le-leb, lt-leb}
use lib.ListN.{length, get_or, drop}
use Rattle.text.specs.Text.{Parsed, bad, got, more, is_digit}
use mathlib.Core.Bool.{true, false}
use Rattle.text.specs.At.{size_of}
use Rattle.text.proofs.Read.{is_digit_std}
use Rattle.text.proofs.Cursor.{place, more_step, more_end}
use Rattle.text.proofs.number.read_digits.Goals as goal

-- the answer, if what is read from i is p
answer : (s : List ℕ) (start at v i : ℕ) (p : Parsed ℕ) → more v (drop i s) ≡ more start (drop at s) → more v (drop i s) ≡ p → size_of (length s) p ≡ size_of (length s) (more start (drop at s))
answer s start at v i p h e = ap (size_of (length s)) (sym e ∙ h)

pub returns-then-v-gt2147483647 : goal.returns-then-v-gt2147483647
returns-then-v-gt2147483647 c =
    let s = c.args.s.now in
    let v = c.loop-i.v in
    let i = c.loop-i.i in
    let d : is_digit (get_or s i 0) ≡ true = sym (is_digit_std (get_or s i 0)) ∙ sym c.is_ascii_digit.ensures.value ∙ c.if-not-is_ascii_digit.false in
    answer s c.args.start c.args.at v i bad c.loop-i.invariant.2 (more_step s v i (omega arith) ∙ simp (d, lt-leb _ _ c.if-v-gt2147483647.true))

pub returns-then-not-is_ascii_digit : goal.returns-then-not-is_ascii_digit
returns-then-not-is_ascii_digit c =
    let s = c.args.s.now in
    let v = c.loop-i.v in
    let i = c.loop-i.i in
    let d : is_digit (get_or s i 0) ≡ false = sym (is_digit_std (get_or s i 0)) ∙ sym c.is_ascii_digit.ensures.value ∙ c.if-not-is_ascii_digit.true in
    ap (λ n. Some (v, n)) (sym (place s i (omega arith))) ∙ answer s c.args.start c.args.at v i (got v (drop i s)) c.loop-i.invariant.2 (more_step s v i (omega arith) ∙ simp d)

pub loop-i-preserved : goal.loop-i-preserved
loop-i-preserved c =
    let s = c.args.s.now in
    let v = c.loop-i.v in
    let i = c.loop-i.i in
    let w = v * 10 + (get_or s i 0 - 48) in
    let d : is_digit (get_or s i 0) ≡ true = sym (is_digit_std (get_or s i 0)) ∙ sym c.is_ascii_digit.ensures.value ∙ c.if-not-is_ascii_digit.false in
    let e : more v (drop i s) ≡ more w (drop (i + 1) s) = more_step s v i (omega arith) ∙ simp (d, le-leb _ _ c.if-v-gt2147483647.false) in
    (omega arith, omega arith, sym e ∙ c.loop-i.invariant.2)

pub returns : goal.returns
returns c =
    let s = c.args.s.now in
    let i = c.loop-i.i in
    let v = c.loop-i.v in
    let e : length s ≡ length s - 0 = omega arith in
    ap (λ n. Some (v, n)) e ∙ ap (size_of (length s)) (sym (more_end s v i (omega arith)) ∙ c.loop-i.invariant.2)
