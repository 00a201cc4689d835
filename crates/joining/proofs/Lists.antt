-- Coverings joined level by level: what is stored, with the joined coverings of the levels that are left, is the joined coverings. Assumes nothing.
use mathlib.Core.Path.{◌≡◌, refl, sym, ap, ◌∙◌, subst}
use mathlib.Core.List.{List, ◌++◌, append_assoc, append-nil}
use Prim.Native.Nat.{ℕ, suc, ◌+◌, ◌-◌, ◌/◌, ◌<◌, ◌≤◌}
use native.Mathlib.Omega.{arith}
use lib.ListN.{length, take, drop, length-drop}
use lib.Seq.{paste, length-paste, take-paste, take_all, drop-drop}
use Rattle.slices.specs.Stores.{pasted}
use Rattle.slices.proofs.Stores.{pasted_paste}
use Rattle.pyramid.specs.Plane.{blocks, all_blocks}
use Rattle.strips.specs.Join.{joined_covers}
use Rattle.strips.proofs.Beside.{wide_all}
use Rattle.joining.specs.Pairs.{CoverRoom}

-- k levels of m by n blocks are left, behind the first i coverings of each strip
pub record Part (R h w k m n i : ℕ) (l r out : List ℕ) : Type 0 where
  pub long : length out ≡ length l + length l
  pub same : length r ≡ length l
  pub rest : i + all_blocks k m n ≡ length l
  pub done : take (i + i) out ++ joined_covers k m n (drop i l) (drop i r) ≡ joined_covers R h w l r

pub part_start : (R h w : ℕ) (l r out : List ℕ) → CoverRoom R h w (length l) (length r) (length out) → Part R h w R h w 0 l r out
part_start R h w l r out t = record {
  long = t.out ∙ wide_all R h w t.fits ∙ (λ i. sym t.left i + sym t.left i);
  same = t.right ∙ sym t.left;
  rest = let e : 0 + all_blocks R h w ≡ all_blocks R h w = omega arith in e ∙ sym t.left;
  done = refl;
}

-- a level is left
opened : {R h w k m n i : ℕ} {l r out : List ℕ} → Part R h w k m n i l r out → 0 < k → Part R h w (suc (k - 1)) m n i l r out
opened {R} {h} {w} {k} {m} {n} {i} {l} {r} {out} H g = let e : k ≡ suc (k - 1) = omega arith in subst (λ (k : ℕ). Part R h w k m n i l r out) e H

module _ {R h w levels m n i : ℕ} {l r out : List ℕ} (before : Part R h w levels m n i l r out) (some : 0 < levels) where
  abbrev k : ℕ
  k = levels - 1

  H : Part R h w (suc k) m n i l r out
  H = opened before some

  abbrev b : ℕ
  b = blocks m n

  pub room_left : (i + blocks m n ≤ length l) × (i + i + blocks m n ≤ length out)
  room_left = let e = H.rest in let g = H.long in (omega arith, omega arith)

  module _ {mid : List ℕ} (e : mid ≡ pasted 0 l i (i + i) (blocks m n) out) where
    x : mid ≡ paste out (i + i) (drop i l) b
    x = e ∙ pasted_paste 0 l i (i + i) out b room_left.1 room_left.0

    mid-length : length mid ≡ length out
    mid-length = let e = H.rest in let g = H.long in ap length x ∙ length-paste out (i + i) (drop i l) b (omega arith) (omega (arith, length-drop i l))

    pub room_right : (i + blocks m n ≤ length r) × (i + i + blocks m n + blocks m n ≤ length mid)
    room_right = let e = H.rest in let g = H.long in let s = H.same in (omega arith, omega (arith, mid-length))

    pub part-turn : {new : List ℕ} → new ≡ pasted 0 r i (i + i + blocks m n) (blocks m n) mid → Part R h w k (m / 2) (n / 2) (i + blocks m n) l r new
    unfolding joined_covers
    part-turn {new} f = record {
      long = ap length y ∙ length-paste mid (i + i + b) (drop i r) b room_right.1 (omega (arith, room_right.0, length-drop i r)) ∙ mid-length ∙ H.long;
      same = H.same;
      rest = let e = H.rest in omega arith;
      done =
          ap (λ (z : List ℕ). z ++ others) stored
          ∙ append_assoc (take (i + i) out) (take b (drop i l) ++ take b (drop i r)) others
          ∙ ap (λ (z : List ℕ). take (i + i) out ++ z) (append_assoc (take b (drop i l)) (take b (drop i r)) others ∙ (λ t. take b (drop i l) ++ (take b (drop i r) ++ joined_covers k (m / 2) (n / 2) (sym (drop-drop b i l) t) (sym (drop-drop b i r) t))))
          ∙ H.done;
    }
      where
        y : new ≡ paste mid (i + i + b) (drop i r) b
        y = f ∙ pasted_paste 0 r i (i + i + b) mid b room_right.1 room_right.0

        others : List ℕ
        others = joined_covers k (m / 2) (n / 2) (drop (i + b) l) (drop (i + b) r)

        twice : i + b + (i + b) ≡ i + i + b + b
        twice = omega arith

        stored : take (i + b + (i + b)) new ≡ take (i + i) out ++ (take b (drop i l) ++ take b (drop i r))
        stored =
            (λ t. take (twice t) (y t))
            ∙ take-paste mid (i + i + b) (drop i r) b (omega (arith, room_right.1)) (omega (arith, room_right.0, length-drop i r))
            ∙ ap (λ (z : List ℕ). z ++ take b (drop i r)) ((λ t. take (i + i + b) (x t)) ∙ take-paste out (i + i) (drop i l) b (omega (arith, room_left.1)) (omega (arith, room_left.0, length-drop i l)))
            ∙ append_assoc (take (i + i) out) (take b (drop i l)) (take b (drop i r))

pub part_end : {R h w k m n i : ℕ} {l r out : List ℕ} → Part R h w k m n i l r out → k ≤ 0 → out ≡ joined_covers R h w l r
unfolding joined_covers
part_end {R} {h} {w} {k} {m} {n} {i} {l} {r} {out} H none = let e : k ≡ 0 = omega arith in last (subst (λ (k : ℕ). Part R h w k m n i l r out) e H)
  where
    last : Part R h w 0 m n i l r out → out ≡ joined_covers R h w l r
    last H =
        let e = H.rest in
        let g = H.long in
        sym (take_all (i + i) out (omega arith)) ∙ sym (append-nil (take (i + i) out)) ∙ H.done
