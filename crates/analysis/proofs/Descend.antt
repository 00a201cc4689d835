-- Decomposing level by level: what is known after some levels, and that one more keeps it. Assumes nothing.
use mathlib.Core.Path.{◌≡◌, refl, sym, ap, ◌∙◌, subst, subst⁻¹, fun_ext}
use mathlib.Core.List.{List, [], ◌++◌, map, append_assoc, append-nil}
use Prim.Native.Nat.{ℕ, suc, ◌+◌, ◌*◌, ◌/◌, ◌^◌, ◌<◌, ◌≤◌}
use native.Mathlib.Nat.{zero-add, add_assoc, pow-succ', pow-le-pow_right, mul-le-mul, mul-le-mul_left, mul-le-mul_right, le_trans}
use native.Mathlib.Omega.{arith}
use lib.IntN.{ℤ, pos, nat_abs}
use lib.ListN.{length, get_or, take, get_or-map, get_or-append}
use lib.Seq.{take-length, length-take-le, get_or-take, get_or-append-add}
use Rattle.integers.proofs.Index.{index_bound}
use Rattle.slices.specs.Stores.{rectangles}
use Rattle.slices.proofs.Stores.{rectangles_in, rectangles_out}
use Rattle.counts.specs.Counts.{counts_of}
use Rattle.terms.specs.Terms.{among, pick_terms}
use Rattle.pyramid.specs.Plane.{Image, Fits, blocks, all_blocks, after, bands_of, analyse, Chooser, following, listed, covers_after}
use Rattle.pyramid.specs.Slices.{image_of, picture_of, slice_of}
use Rattle.analysis.specs.Analysis.{Region, Small, Banded, Levelled}
use Rattle.analysis.proofs.Bandwise.{all_few}
use Rattle.pyramid.proofs.Choose.{Reads, next_of, chosen_length, bands_same, covers_step}
use Rattle.pyramid.proofs.Finish.{finish, finish_in, finish_zero, Stepped, finish_step, low}
use Rattle.pyramid.proofs.Ranges.{Upto, bands_low}
use Rattle.pyramid.proofs.Slices.{Agree, slice_of_law, layout_cong}

-- ---- by given coverings

-- `done` levels of A are worked, `left` are left on the upper left `tall` by `wide` entries; `first` blocks are done
pub record Worked (R H W : ℕ) (cs : ℕ → ℕ) (A : Image) (plane : List ℤ) (done tall wide first left : ℕ) : Type 0 where
  pub all : done + left ≡ R
  pub fits : Fits left tall wide
  pub inside : tall ≤ H
  pub within : wide ≤ W
  pub rest : first + all_blocks left tall wide ≡ all_blocks R H W
  pub same : (y x : ℕ) → y < H → x < W → finish left tall wide (after first cs) (image_of H plane) y x ≡ finish R H W cs A y x

again : (cs : ℕ → ℕ) (k n : ℕ) → after n (after k cs) ≡ after (k + n) cs
again cs k n = fun_ext (λ m. ap cs (sym (add_assoc k n m)))

pub worked_start : (R H W : ℕ) (cs : ℕ → ℕ) (A : Image) (plane : List ℤ) → Fits R H W → image_of H plane ≡ A → Worked R H W cs A plane 0 H W 0 R
worked_start R H W cs A plane f e = record {
  all = omega arith;
  fits = f;
  inside = omega arith;
  within = omega arith;
  rest = omega arith;
  same = λ y x k l. (λ t. finish R H W (λ m. cs (zero-add m t)) (e t) y x);
}

-- the level's bands go back into the plane
module _ (R H W : ℕ) (cs : ℕ → ℕ) (A : Image) (plane : List ℤ) (done tall wide first left : ℕ) (d : Worked R H W cs A plane done tall wide first (suc left)) (out : List ℤ)
    (long : length plane ≡ W * H) (v : Banded H tall wide (after first cs) (image_of H plane) out) where
  abbrev plane' : List ℤ
  plane' = rectangles H tall wide out plane

  pub stepped : Stepped H tall wide (after first cs) (image_of H plane) (image_of H plane')
  stepped = record {
    inside = λ y x k l. rectangles_in out H tall d.inside plane wide y x room l k ∙ v y x k l;
    outside = λ y x k n. rectangles_out out H tall d.inside plane wide y x k (λ a b. n b a);
  }
    where
      room : wide * H ≤ length plane
      room = rw long (mul-le-mul_right H d.within)

  pub worked_low : Agree (tall / 2) (wide / 2) (image_of H plane') (bands_of tall (after first cs) (image_of H plane) 0)
  worked_low = low left H tall wide d.fits (after first cs) (image_of H plane) (image_of H plane') stepped

  pub worked_step : Worked R H W cs A plane' (suc done) (tall / 2) (wide / 2) (first + blocks tall wide) left
  worked_step = record {
    all = let e = d.all in omega arith;
    fits = d.fits.2;
    inside = let e = d.inside in omega arith;
    within = let e = d.within in omega arith;
    rest = let e = d.rest in omega arith;
    same = λ y x k l.
        ap (λ (c : ℕ → ℕ). finish left (tall / 2) (wide / 2) c (image_of H plane') y x) (sym (again cs first (blocks tall wide)))
        ∙ finish_step left H tall wide d.fits (after first cs) (image_of H plane) (image_of H plane') stepped y x k
        ∙ d.same y x k l;
  }

-- after all levels
pub worked_end : (R H W : ℕ) (cs : ℕ → ℕ) (A : Image) (plane : List ℤ) (done tall wide first : ℕ) → length plane ≡ W * H → Worked R H W cs A plane done tall wide first 0 → plane ≡ slice_of H W (analyse R H W cs A)
worked_end R H W cs A plane done tall wide first long d =
    slice_of_law H W (analyse R H W cs A) plane long
    (λ y x k l. sym (finish_zero tall wide (after first cs) (image_of H plane) y x) ∙ d.same y x k l ∙ finish_in R H W cs A y x k l)

-- the region of the next level, in the plane and in a slice as long
pub worked_region : {R H W : ℕ} {cs : ℕ → ℕ} {A : Image} {plane : List ℤ} {done tall wide first left : ℕ} (m n : ℕ) → H ≤ 512 → W ≤ 512 → m ≡ W * H → n ≡ W * H
    → Worked R H W cs A plane done tall wide first (suc left) → Region H tall wide m n
worked_region {H} m n a b e g d = record {
  low = a;
  narrow = le_trans d.within b;
  inside = d.inside;
  rows = d.fits.0;
  columns = d.fits.1;
  read = rw e (mul-le-mul_right H d.within);
  stored = rw g (mul-le-mul_right H d.within);
}

-- the coverings of the next level have room, and those before it are few
pub worked_room : (R H W : ℕ) (cs : ℕ → ℕ) (A : Image) (plane : List ℤ) (done tall wide first left : ℕ) → Worked R H W cs A plane done tall wide first (suc left) → first + blocks tall wide ≤ all_blocks R H W
worked_room R H W cs A plane done tall wide first left d = let e = d.rest in omega arith

pub worked_few : (R H W : ℕ) (cs : ℕ → ℕ) (A : Image) (plane : List ℤ) (done tall wide first left : ℕ) → R ≤ 8 → H ≤ 512 → W ≤ 512 → Worked R H W cs A plane done tall wide first left → first ≤ 131072
worked_few R H W cs A plane done tall wide first left r a b d = let e = d.rest in omega (arith, all_few R H W a b)

-- ---- by a rule of choice

-- the coverings of a picture
abbrev pub final_of : (ℕ → Chooser) → ℕ → ℕ → ℕ → List ℕ → List ℕ
final_of rule R H W s = covers_after rule 0 [] R H W (picture_of H s)

-- the first `first` coverings stand and are counted
pub record Descended (rule : ℕ → Chooser) (R H W : ℕ) (s : List ℕ) (plane : List ℤ) (cov counts : List ℕ) (tall wide first left : ℕ) : Type 0 where
  pub done : ℕ
  pub worked : Worked R H W (listed (final_of rule R H W s)) (picture_of H s) plane done tall wide first left
  pub upto : (y x : ℕ) → y < tall → x < wide → Upto (4095 * 4 ^ done) (image_of H plane y x)
  pub covered : take first cov ++ covers_after rule done (take first cov) left tall wide (image_of H plane) ≡ final_of rule R H W s
  pub counted : counts ≡ counts_of (take first cov)

widened : (H : ℕ) (s : List ℕ) → image_of H (map pos s) ≡ picture_of H s
widened H s = fun_ext (λ y. fun_ext (λ x. get_or-map pos s (x * H + y) 0))

pub descend_start : (rule : ℕ → Chooser) (R H W : ℕ) (s : List ℕ) (cov counts : List ℕ) → Fits R H W → ((k : ℕ) → k < W * H → get_or s k 0 ≤ 4095) → counts ≡ counts_of [] → Descended rule R H W s (map pos s) cov counts H W 0 R
descend_start rule R H W s cov counts f small e = record {
  done = 0;
  worked = worked_start R H W (listed (final_of rule R H W s)) (picture_of H s) (map pos s) f (widened H s);
  upto = λ y x k l. (get_or s (x * H + y) 0, get_or-map pos s (x * H + y) 0, small (x * H + y) (index_bound x y W H l k));
  covered = ap (λ (A : Image). covers_after rule 0 [] R H W A) (widened H s);
  counted = e;
}

-- the numbers of a level are small
pub descend_small : {rule : ℕ → Chooser} {R H W : ℕ} {s : List ℕ} {plane : List ℤ} {cov counts : List ℕ} {tall wide first left : ℕ} → R ≤ 8 → Descended rule R H W s plane cov counts tall wide first left → Small tall wide (image_of H plane)
descend_small {H} {plane} r d y x k l = go (d.upto y x k l)
  where
    power : 4 ^ d.done ≤ 4 ^ 8
    power = pow-le-pow_right {n = 4} (omega arith) {i = d.done} {j = 8} (omega (arith, d.worked.all))

    go : Upto (4095 * 4 ^ d.done) (image_of H plane y x) → nat_abs (image_of H plane y x) ≤ 2 ^ 40
    go u = subst⁻¹ (λ (z : ℤ). nat_abs z ≤ 2 ^ 40) u.1 (le_trans u.2 (le_trans (mul-le-mul_left 4095 power) (omega arith)))

module _ (rule : ℕ → Chooser) (reads : (r : ℕ) → Reads (rule r)) (R H W : ℕ) (s : List ℕ) (plane : List ℤ) (cov counts : List ℕ) (tall wide first left : ℕ)
    (d : Descended rule R H W s plane cov counts tall wide first (suc left)) (cov' counts' : List ℕ) (out : List ℤ) (long : length plane ≡ W * H) (room : first + blocks tall wide ≤ length cov)
    (v : Levelled (rule (suc d.done)) H tall wide first (image_of H plane) cov cov' out counts') where
  abbrev final : List ℕ
  final = final_of rule R H W s

  abbrev A : Image
  A = image_of H plane

  -- the level's coverings
  abbrev chosen : List ℕ
  chosen = next_of rule d.done (take first cov) tall wide A

  chosen_long : length chosen ≡ blocks tall wide
  chosen_long = chosen_length (following (take first cov) (rule (suc d.done))) tall A (blocks tall wide)

  behind : (l : List ℕ) (k : ℕ) → get_or (take first cov ++ l) (first + k) 0 ≡ get_or l k 0
  behind l k = ap (λ (n : ℕ). get_or (take first cov ++ l) (n + k) 0) (sym (length-take-le first cov (omega arith))) ∙ get_or-append-add (take first cov) l k 0

  -- they stand in the slice, and in the picture's list
  stand : (k : ℕ) → k < blocks tall wide → listed cov' (first + k) ≡ listed chosen k
  stand k l = sym (get_or-take (first + blocks tall wide) cov' (first + k) 0 (omega arith)) ∙ ap (λ (z : List ℕ). get_or z (first + k) 0) v.covered ∙ behind chosen k

  unfolded : (r : List ℕ) → r ≡ covers_after rule d.done (take first cov) (suc left) tall wide A → (k : ℕ) → listed final (first + k) ≡ listed r k
  unfolded r e k = ap (λ (z : List ℕ). get_or z (first + k) 0) (sym d.covered) ∙ behind _ k ∙ ap (λ (z : List ℕ). get_or z k 0) (sym e)

  listed_so : (k : ℕ) → k < blocks tall wide → listed final (first + k) ≡ listed chosen k
  unfolding covers_after
  listed_so k l = unfolded (chosen ++ _) refl k ∙ get_or-append chosen _ 0 k (omega (arith, chosen_long))

  banded : Banded H tall wide (after first (listed final)) A out
  banded y x k l =
      v.bands y x k l
      ∙ layout_cong tall wide d.worked.fits.0 d.worked.fits.1 (bands_of tall (after first (listed cov')) A) (bands_of tall (after first (listed final)) A)
      (λ b y x c k l. bands_same tall wide d.worked.fits.0 d.worked.fits.1 A (after first (listed cov')) (after first (listed final)) (λ n e. stand n e ∙ sym (listed_so n e)) b y x k l) y x k l

  abbrev next : List ℤ
  next = rectangles H tall wide out plane

  lower : Agree (tall / 2) (wide / 2) (image_of H next) (bands_of tall (after first (listed final)) A 0)
  lower = worked_low R H W (listed final) (picture_of H s) plane d.done tall wide first left d.worked out long banded

  pub descend_step : Descended rule R H W s next cov' counts' (tall / 2) (wide / 2) (first + blocks tall wide) left
  descend_step = record {
    done = suc d.done;
    worked = worked_step R H W (listed final) (picture_of H s) plane d.done tall wide first left d.worked out long banded;
    upto = λ y x k l.
        subst⁻¹ (λ (z : ℤ). Upto (4095 * 4 ^ suc d.done) z) (lower y x k l)
        (subst (λ (n : ℕ). Upto n (bands_of tall (after first (listed final)) A 0 y x)) power
        (bands_low tall wide (4095 * 4 ^ d.done) d.worked.fits.0 d.worked.fits.1 (after first (listed final)) A d.upto y x k l));
    covered =
        (λ t. v.covered t ++ covers_after rule (suc d.done) (v.covered t) left (tall / 2) (wide / 2) (image_of H next))
        ∙ append_assoc (take first cov) chosen (covers_after rule (suc d.done) (take first cov ++ chosen) left (tall / 2) (wide / 2) (image_of H next))
        ∙ ap (λ (r : List ℕ). take first cov ++ r)
        (sym (covers_step rule reads d.done (take first cov) left tall wide d.worked.fits A (image_of H next)
        (λ y x k l. lower y x k l ∙ bands_same tall wide d.worked.fits.0 d.worked.fits.1 A (after first (listed final)) (listed chosen) listed_so 0 y x k l)))
        ∙ d.covered;
    counted = v.counted;
  }
    where
      power : 4 * (4095 * 4 ^ d.done) ≡ 4095 * 4 ^ suc d.done
      power = move (4 ^ d.done) ∙ ap (λ (n : ℕ). 4095 * n) (sym (pow-succ' 4 d.done))
        where
          move : (n : ℕ) → 4 * (4095 * n) ≡ 4095 * (4 * n)
          move n = omega arith

-- after all levels
pub descend_covers : (rule : ℕ → Chooser) (R H W : ℕ) (s : List ℕ) (plane : List ℤ) (cov counts : List ℕ) (tall wide first : ℕ) → length cov ≡ all_blocks R H W → Descended rule R H W s plane cov counts tall wide first 0 → cov ≡ final_of rule R H W s
unfolding covers_after
descend_covers rule R H W s plane cov counts tall wide first long d =
    let e : first ≡ length cov = let g = d.worked.rest in omega arith in
    sym (take-length cov) ∙ ap (λ (n : ℕ). take n cov) (sym e) ∙ sym (append-nil (take first cov)) ∙ d.covered

-- ---- with a tolerance: what it allows doubles from level to level

pub allowed_first : (t : ℕ) → t * 2 ≡ t * 2 ^ suc 0
allowed_first t = refl

pub allowed_next : (t slack d : ℕ) → slack ≡ t * 2 ^ suc d → slack * 2 ≡ t * 2 ^ suc (d + 1)
allowed_next t slack d e =
    let n : suc d ≡ d + 1 = omega arith in
    ap (λ (m : ℕ). m * 2) e ∙ move t (2 ^ suc d) ∙ ap (λ (m : ℕ). t * m) (sym (pow-succ' 2 (suc d))) ∙ ap (λ (m : ℕ). t * 2 ^ suc m) n
  where
    move : (a b : ℕ) → a * b * 2 ≡ a * (2 * b)
    move a b = omega arith

pub allowed_small : (t slack d : ℕ) → t ≤ 4095 → d ≤ 8 → slack ≡ t * 2 ^ suc d → slack ≤ 2 ^ 40
allowed_small t slack d h r e = rw e (le_trans (mul-le-mul h (pow-le-pow_right {n = 2} (omega arith) {i = suc d} {j = 9} (omega arith))) (omega arith))

-- the level's choice is that of its terms
pub levelled_as : {n m : ℕ} (list : List ℕ) {h tall wide first : ℕ} {A : Image} {old new : List ℕ} {out : List ℤ} {counts : List ℕ} → n ≡ m → Levelled (pick_terms (among n list)) h tall wide first A old new out counts → Levelled (pick_terms (among m list)) h tall wide first A old new out counts
levelled_as list {h} {tall} {wide} {first} {A} {old} {new} {out} {counts} e v = subst (λ (k : ℕ). Levelled (pick_terms (among k list)) h tall wide first A old new out counts) e v
