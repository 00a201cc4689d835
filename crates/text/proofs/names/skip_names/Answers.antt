-- `text::names::skip_names` meets its contract: the whole words, then the odd bytes. Assumes nothing.
use mathlib.Core.Path.{◌≡◌, sym, ap, ◌∙◌}
use mathlib.Core.Bool.{true, false}
use Rattle.std.specs.Prelude.{Some}
use Prim.Native.Nat.{◌+◌}
use native.Mathlib.Omega.{arith}
use borrow.Author.Rules.{rules}
use borrow.Author.Tests.{eq-eqb, ne_eqb}
use lib.ListN.{length, length-drop, drop}
use Rattle.text.specs.Text.{bad, skip}
use Rattle.text.specs.At.{skip_of}
use Rattle.text.proofs.Cursor.{place, skip_short, skip_words, skip_step, skip_end}
use Rattle.text.proofs.names.skip_names.Goals as goal

pub returns-then-s-at : goal.returns-then-s-at
returns-then-s-at c = let a = c.args in ap (skip_of (length a.s.now)) (sym (skip_short a.names.now (drop a.at a.s.now) (omega (arith, length-drop a.at a.s.now))))

pub same_words-requires : goal.same_words-requires
same_words-requires c = omega arith

pub returns-then-not-same_words : goal.returns-then-not-same_words
returns-then-not-same_words c =
    let a = c.args in
    let f = c.if-not-same_words.true in
    ap (skip_of (length a.s.now)) (sym (skip_words a.names.now a.s.now a.at false (omega arith) (sym f ∙ c.same_words.ensures)))

pub loop-i-init : goal.loop-i-init
loop-i-init c =
    let a = c.args in
    let f = c.if-not-same_words.false in
    (omega arith, omega arith, sym (skip_words a.names.now a.s.now a.at true (omega arith) (sym f ∙ c.same_words.ensures)))

pub returns-then-s-at-2 : goal.returns-then-s-at-2
returns-then-s-at-2 c =
    let a = c.args in
    let i = c.loop-i.i in
    let p = a.at + i in
    let e : skip (drop i a.names.now) (drop p a.s.now) ≡ bad =
    skip_step a.names.now a.s.now i p (omega arith) (omega arith) ∙ simp (ne_eqb _ _ c.if-s-at-2.true) in
    ap (skip_of (length a.s.now)) (sym e ∙ c.loop-i.invariant.2)

pub loop-i-preserved : goal.loop-i-preserved
loop-i-preserved c =
    let a = c.args in
    let i = c.loop-i.i in
    let p = a.at + i in
    let e : skip (drop i a.names.now) (drop p a.s.now) ≡ skip (drop (i + 1) a.names.now) (drop (p + 1) a.s.now) =
    skip_step a.names.now a.s.now i p (omega arith) (omega arith) ∙ simp (eq-eqb _ _ c.if-s-at-2.false) in
    let w : a.at + (i + 1) ≡ p + 1 = omega arith in
    (search rules, omega arith, ap (λ x. skip (drop (i + 1) a.names.now) (drop x a.s.now)) w ∙ sym e ∙ c.loop-i.invariant.2)

pub returns : goal.returns
returns c =
    let a = c.args in
    let i = c.loop-i.i in
    let n : a.at + length a.names.now ≡ a.at + i = omega arith in
    ap Some (n ∙ sym (place a.s.now (a.at + i) (omega arith)))
    ∙ ap (skip_of (length a.s.now)) (sym (skip_end a.names.now a.s.now i (a.at + i) (omega arith)) ∙ c.loop-i.invariant.2)
