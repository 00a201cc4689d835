-- The checks of join: the number of each call by what is found, and what is found where none refuses. Assumes nothing.
use Rattle.std.specs.Prelude.{Result, Ok, ⊤}
use mathlib.Core.Path.{◌≡◌, sym, ◌∙◌, subst}
use mathlib.Core.Bool.{Bool, true, false, not, ◌&&◌}
use mathlib.Core.List.{List}
use Prim.Native.Nat.{ℕ, ◌+◌, ◌*◌, ◌<◌, ◌≤◌}
use native.Mathlib.Omega.{arith}
use native.Mathlib.Nat.{one-le-pow}
use borrow.Author.Tests.{eqb-true, ltb-false}
use lib.Dec.{eqb, ltb, eqb→eq}
use lib.IntN.{ℤ}
use lib.ListN.{length}
use Rattle.refusals.specs.Refusal.{number_of, answer_of, refuse_if, after_call}
use Rattle.refusals.specs.declared.Refusal.{Refusal}
use Rattle.refusals.proofs.After.{unchanged, past, within, front_passed}
use Rattle.integers.proofs.Tests.{is_true, both, both_left, both_right, both_true, two_hold, not_both, eq→eqb, true_at, false_at}
use Rattle.pyramid.specs.Plane.{all_blocks}
use Rattle.pyramid.specs.Sides.{is_sides, is_depth}
use Rattle.places.proofs.Sides.{Passed, passed}
use Rattle.strips.proofs.Passed.{framed_of, of_framed}
use Rattle.strips.specs.Strip.{Strip, wide_of, is_sided, is_deep, is_framed, is_numbered, is_ranged, Sided, Deep, Framed, Numbered, Ranged, Passes}
use Rattle.coder.proofs.Gates.{truth}
use Rattle.joining.specs.Entries.{pair_refusal, join_refusal, Joined}
use Rattle.joining.specs.Claims.{Alike, JoinChecks}
use Rattle.joining.specs.Pairs.{PlaneRoom, CoverRoom}

-- ---- the number of each call

-- the list of checks, by what each finds
abbrev chain : Bool → Bool → Bool → Bool → Bool → Bool → Bool → ℕ
chain sided deep same wide framed numbered ranged =
    refuse_if (not sided) 1 (refuse_if (not deep) 2 (refuse_if (not same) 15 (refuse_if wide 16 (refuse_if (not framed) 3 (refuse_if (not numbered) 5 (refuse_if (not ranged) 6 0))))))

module _ (left right : Strip) (plane : List ℤ) (coverings : List ℕ) where
  abbrev wide_strip : Strip
  wide_strip = wide_of left plane coverings

  abbrev alike_of : Bool
  alike_of = eqb left.height right.height && (eqb left.width right.width && eqb left.levels right.levels)

  abbrev broad : Bool
  broad = ltb 512 (left.width + left.width)

  abbrev framed : Bool
  framed = is_framed left && (is_framed right && is_framed wide_strip)

  sided : Sided left → Sided right → (is_sided left && is_sided right) ≡ true
  sided a b = two_hold (is_sided left) (is_sided right) a b

  deep : Deep left → Deep right → (is_deep left && is_deep right) ≡ true
  deep a b = two_hold (is_deep left) (is_deep right) a b

  same : left.height ≡ right.height → left.width ≡ right.width → left.levels ≡ right.levels → alike_of ≡ true
  same a b c = two_hold (eqb left.height right.height) (eqb left.width right.width && eqb left.levels right.levels) (eq→eqb a) (both (eqb left.width right.width) (eqb left.levels right.levels) (eq→eqb b) (eq→eqb c))

  differ : (left.height ≡ right.height → left.width ≡ right.width → left.levels ≡ right.levels → ⊥) → alike_of ≡ false
  differ f =
      not_both (eqb left.height right.height) (eqb left.width right.width && eqb left.levels right.levels)
      (λ a t. f (eqb→eq left.height right.height a) (eqb→eq left.width right.width (both_left (eqb left.width right.width) (eqb left.levels right.levels) t)) (eqb→eq left.levels right.levels (both_right (eqb left.width right.width) (eqb left.levels right.levels) t)))

  in_frame : Framed left → Framed right → Framed wide_strip → framed ≡ true
  in_frame a b c = two_hold (is_framed left) (is_framed right && is_framed wide_strip) (framed_of left a) (both (is_framed right) (is_framed wide_strip) (framed_of right b) (framed_of wide_strip c))

  off_frame : (Framed left → Framed right → Framed wide_strip → ⊥) → framed ≡ false
  off_frame f =
      not_both (is_framed left) (is_framed right && is_framed wide_strip)
      (λ a t. f (of_framed left (is_true (is_framed left) a)) (of_framed right (is_true (is_framed right) (both_left (is_framed right) (is_framed wide_strip) t))) (of_framed wide_strip (is_true (is_framed wide_strip) (both_right (is_framed right) (is_framed wide_strip) t))))

  numbered : Numbered left → Numbered right → (is_numbered left && is_numbered right) ≡ true
  numbered a b = two_hold (is_numbered left) (is_numbered right) a b

  ranged : Ranged left → Ranged right → (is_ranged left && is_ranged right) ≡ true
  ranged a b = two_hold (is_ranged left) (is_ranged right) a b

  narrow : left.width + left.width ≤ 512 → broad ≡ false
  narrow l = false_at 512 (left.width + left.width) l

  pub checks : JoinChecks left right plane coverings
  checks = record {
    side = λ f i. chain (not_both (is_sided left) (is_sided right) f i) (is_deep left && is_deep right) alike_of broad framed (is_numbered left && is_numbered right) (is_ranged left && is_ranged right);
    depth = λ a b f i. chain (sided a b i) (not_both (is_deep left) (is_deep right) f i) alike_of broad framed (is_numbered left && is_numbered right) (is_ranged left && is_ranged right);
    mismatch = λ a b f i. chain (sided a.0 b.0 i) (deep a.1 b.1 i) (differ f i) broad framed (is_numbered left && is_numbered right) (is_ranged left && is_ranged right);
    wide = λ a b c d e l i. chain (sided a.0 b.0 i) (deep a.1 b.1 i) (same c d e i) (true_at 512 (left.width + left.width) l i) framed (is_numbered left && is_numbered right) (is_ranged left && is_ranged right);
    frame = λ a b c f i. chain (sided a.0 b.0 i) (deep a.1 b.1 i) (same c.heights c.widths c.levels i) (narrow c.narrow i) (off_frame f i) (is_numbered left && is_numbered right) (is_ranged left && is_ranged right);
    covering = λ a b c d e g f i.
        chain (sided a.0 b.0 i) (deep a.1 b.1 i) (same c.heights c.widths c.levels i) (narrow c.narrow i) (in_frame d e g i) (not_both (is_numbered left) (is_numbered right) f i) (is_ranged left && is_ranged right);
    coefficient = λ a b c d e g m n f i.
        chain (sided a.0 b.0 i) (deep a.1 b.1 i) (same c.heights c.widths c.levels i) (narrow c.narrow i) (in_frame d e g i) (numbered m n i) (not_both (is_ranged left) (is_ranged right) f i);
    accepted = λ a b c g i.
        chain (sided a.sides b.sides i) (deep a.depth b.depth i) (same c.heights c.widths c.levels i) (narrow c.narrow i) (in_frame a.frame b.frame g i) (numbered a.numbers b.numbers i) (ranged a.ranges b.ranges i);
  }

-- ---- what is found where none refuses

-- by the first four checks
pub record Pair (lh lw lR rh rw rR : ℕ) : Type 0 where
  pub left : Passed lh lw lR
  pub right : Passed rh rw rR
  pub heights : lh ≡ rh
  pub widths : lw ≡ rw
  pub levels : lR ≡ rR
  pub narrow : lw + lw ≤ 512

pub pair_past : (lh lw lR rh rw rR : ℕ) {rest : ℕ} → 0 ≡ pair_refusal lh lw lR rh rw rR rest → Pair lh lw lR rh rw rR × (0 ≡ rest)
pair_past lh lw lR rh rw rR e =
    let a = past (is_sides lh lw && is_sides rh rw) 0 e in
    let b = past (is_depth lR lh lw && is_depth rR rh rw) 1 a.1 in
    let c = past (eqb lh rh && (eqb lw rw && eqb lR rR)) 14 b.1 in
    let d = within (ltb 512 (lw + lw)) 15 c.1 in
    let s = both_true (is_sides lh lw) _ a.0 in
    let t = both_true (is_depth lR lh lw) _ b.0 in
    let u = both_true (eqb lh rh) _ c.0 in
    let v = both_true (eqb lw rw) _ u.1 in
    (record { left = passed lh lw lR s.0 t.0; right = passed rh rw rR s.1 t.1; heights = eqb-true _ _ u.0; widths = eqb-true _ _ v.0; levels = eqb-true _ _ v.1; narrow = ltb-false 512 (lw + lw) d.0 }, d.1)

pub pair_passed : (lh lw lR rh rw rR : ℕ) {a : Result ⊤ Refusal} → a ≡ (Ok tt) → ((rest : ℕ) → pair_refusal lh lw lR rh rw rR rest ≡ after_call (answer_of a) rest (answer_of a)) → Pair lh lw lR rh rw rR
pair_passed lh lw lR rh rw rR e f = (pair_past lh lw lR rh rw rR (front_passed 0 e (f 0))).0

-- by all of them
pub record Found (left right : Strip) (plane : List ℤ) (coverings : List ℕ) : Type 0 where
  pub left_passes : Passes left
  pub right_passes : Passes right
  pub alike : Alike left right
  pub frame : Framed (wide_of left plane coverings)

module _ (left right : Strip) (plane : List ℤ) (coverings : List ℕ) where
  pub join_past : 0 ≡ join_refusal left right plane coverings → Found left right plane coverings
  join_past e =
      let p = pair_past left.height left.width left.levels right.height right.width right.levels e in
      let z = p.0 in
      let c = past (framed left right plane coverings) 2 p.1 in
      let d = past (is_numbered left && is_numbered right) 4 c.1 in
      let r = past (is_ranged left && is_ranged right) 5 d.1 in
      let f = both_true (is_framed left) (is_framed right && is_framed (wide_of left plane coverings)) c.0 in
      let g = both_true (is_framed right) (is_framed (wide_of left plane coverings)) f.1 in
      let n = both_true (is_numbered left) (is_numbered right) d.0 in
      let i = both_true (is_ranged left) (is_ranged right) r.0 in
      record {
        left_passes = record { sides = truth z.left.sided; depth = truth z.left.deep; frame = of_framed left f.0; numbers = truth n.0; ranges = truth i.0 };
        right_passes = record { sides = truth z.right.sided; depth = truth z.right.deep; frame = of_framed right g.0; numbers = truth n.1; ranges = truth i.1 };
        alike = record { heights = z.heights; widths = z.widths; levels = z.levels; narrow = z.narrow };
        frame = of_framed (wide_of left plane coverings) g.1;
      }

  pub refuses : (r : Refusal) → number_of r ≡ join_refusal left right plane coverings → Joined left right plane plane coverings coverings (number_of r)
  refuses r e = record { number = e; planes = unchanged r _ plane; covers = unchanged r _ coverings }

  -- the work has room
  module _ (f : Found left right plane coverings) where
    size : Passed left.height left.width left.levels
    size = passed left.height left.width left.levels (is_true (is_sided left) f.left_passes.sides) (is_true (is_deep left) f.left_passes.depth)

    pub plane-room : PlaneRoom left.levels left.height left.width (length left.plane) (length right.plane) (length plane)
    plane-room = record {
      fits = size.fits;
      some = let s = size.sizes.wide in subst (λ (n : ℕ). 0 < n) (sym s.is) (one-le-pow s.log 2 (omega arith));
      left = f.left_passes.frame.0;
      right = f.right_passes.frame.0 ∙ (λ i. sym f.alike.widths i * sym f.alike.heights i);
      out = f.frame.0;
    }

    pub cover-room : CoverRoom left.levels left.height left.width (length left.coverings) (length right.coverings) (length coverings)
    cover-room = record {
      fits = size.fits;
      left = f.left_passes.frame.1;
      right = f.right_passes.frame.1 ∙ (λ i. all_blocks (sym f.alike.levels i) (sym f.alike.heights i) (sym f.alike.widths i));
      out = f.frame.1;
    }
