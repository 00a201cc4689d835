-- `words::same_words` meets its contract: the words that are left decide. Assumes nothing.
use mathlib.Core.Path.{◌≡◌, refl, sym, ap, ◌∙◌}
use mathlib.Core.Bool.{Bool, true, false, ◌&&◌}
use Prim.Native.Nat.{ℕ, ◌+◌, ◌*◌, ◌-◌, ◌/◌}
use native.Mathlib.Nat.{add-zero}
use native.Mathlib.Omega.{arith}
use lib.ListN.{length, drop}
use Rattle.words.specs.Words.{agree}
use Rattle.words.proofs.Packed.{agree_word, agree_none}
use Rattle.words.proofs.same_words.Goals as goal

pub loop-i-init : goal.loop-i-init
loop-i-init c =
    let a = c.args in
    let n = length a.t.now / 8 * 8 in
    let e : n - 0 ≡ n = omega arith in
    (omega arith, refl, λ i. agree (e i) (drop (add-zero a.at i) a.s.now) a.t.now)

pub returns-then-not-same_word : goal.returns-then-not-same_word
returns-then-not-same_word c =
    let a = c.args in
    let i = c.loop-i.i in
    let n = length a.t.now / 8 * 8 in
    let f : agree 8 (drop (a.at + i) a.s.now) (drop i a.t.now) ≡ false = sym c.same_word.ensures ∙ c.if-not-same_word.true in
    sym (sym c.loop-i.invariant.2 ∙ agree_word (n - i) (n - (i + 8)) a.s.now a.t.now (a.at + i) i (omega arith) ∙ ap (λ (b : Bool). b && agree (n - (i + 8)) (drop (a.at + i + 8) a.s.now) (drop (i + 8) a.t.now)) f)

pub loop-i-preserved : goal.loop-i-preserved
loop-i-preserved c =
    let a = c.args in
    let i = c.loop-i.i in
    let n = length a.t.now / 8 * 8 in
    let f : agree 8 (drop (a.at + i) a.s.now) (drop i a.t.now) ≡ true = sym c.same_word.ensures ∙ c.if-not-same_word.false in
    let w : a.at + (i + 8) ≡ a.at + i + 8 = omega arith in (
      omega arith,
      omega arith,
      ap (λ (p : ℕ). agree (n - (i + 8)) (drop p a.s.now) (drop (i + 8) a.t.now)) w
          ∙ sym (agree_word (n - i) (n - (i + 8)) a.s.now a.t.now (a.at + i) i (omega arith) ∙ ap (λ (b : Bool). b && agree (n - (i + 8)) (drop (a.at + i + 8) a.s.now) (drop (i + 8) a.t.now)) f)
          ∙ c.loop-i.invariant.2,
    )

pub returns : goal.returns
returns c =
    let a = c.args in
    let i = c.loop-i.i in
    let n = length a.t.now / 8 * 8 in
    sym (agree_none (n - i) (drop (a.at + i) a.s.now) (drop i a.t.now) (omega arith)) ∙ c.loop-i.invariant.2
