-- What the three entries answer on a picture, and what is then printed. Assumes nothing.
use Rattle.std.specs.Prelude.{Result, Ok, Err, ⊤}
use mathlib.Core.Path.{◌≡◌, refl, sym, ap, ◌∙◌, subst}
use mathlib.Core.Bool.{Bool, true, false, not}
use mathlib.Core.List.{List, ◌++◌, map}
use Prim.Native.Nat.{ℕ, zero, suc, ◌*◌, ◌<◌, ◌≤◌}
use native.Mathlib.Omega.{arith}
use lib.Dec.{T, leb, ltb, le→leb}
use lib.IntN.{ℤ}
use lib.ListN.{length, get_or, drop}
use borrow.Author.Tests.{eq-eqb, le-ltb}
use Rattle.integers.specs.Lists.{every}
use Rattle.integers.proofs.Tests.{is_true, both, every_of}
use Rattle.refusals.specs.Refusal.{number_of, answer_of, count_of, refuse_if, after_call}
use Rattle.refusals.specs.declared.Refusal.{Refusal}
use Rattle.refusals.proofs.After.{never_zero, past, within}
use Rattle.coverings.specs.Entry.{is_number}
use Rattle.pyramid.specs.Plane.{Fits, all_blocks}
use Rattle.pyramid.specs.Ranges.{in_range}
use Rattle.pyramid.specs.Sides.{is_sides, is_depth}
use Rattle.pyramid.specs.Slices.{image_of, picture_of, plane_of, covers_of}
use Rattle.pyramid.proofs.Accepted.{plane_accepted}
use Rattle.pyramid.proofs.Choose.{covers_length, covers_numbers}
use Rattle.pyramid.proofs.Slices.{slice_length}
use Rattle.places.proofs.Sides.{passed}
use Rattle.quota.specs.Quota.{kept_of, quota_limit}
use Rattle.quota.proofs.Accepted.{selected_accepted}
use Rattle.coder.specs.Entries.{is_sample, decompose_refusal, Decomposed}
use Rattle.coder.proofs.Gates.{truth, small_samples}
use Rattle.keeping.specs.Entries.{keep_refusal, Kept}
use Rattle.keeping.proofs.Checks.{front_passes}
use Rattle.sheet_text.specs.Sheet.{sheet_text, write_refusal}
use Rattle.sheet.specs.Write.{WriteAnswered}
use Rattle.cutting.specs.Cutter.{refusal_text, picture_text, Printed}
use Rattle.cutting.specs.Pictures.{kept_text, OfPicture}
use Rattle.cutter_text.specs.Rows.{held_to}
use Rattle.cutting.proofs.Bounds.{sheet_bound}
use Rattle.cutting.proofs.Held.{same_samples, held_same}

-- the last check of a call, by its answer
refused_by : (r : Refusal) (t : Bool) (m : ℕ) → number_of r ≡ refuse_if t m 0 → (t ≡ true) × (number_of r ≡ m)
refused_by r true m e = (refl, e)
refused_by r false m e = absurd (never_zero r e)

is_not : (t : Bool) → not t ≡ true → t ≡ false
is_not true e = sym e
is_not false e = refl

-- what is printed
module _ (h w R K : ℕ) (s : List ℕ) where
  print_4 : every is_sample s ≡ false → picture_text h w R K s ≡ refusal_text 4
  unfolding picture_text
  print_4 e = rw e

  pub print_kept : every is_sample s ≡ true → picture_text h w R K s ≡ kept_text h w R K (plane_of R h w s) (covers_of R h w s)
  unfolding picture_text
  print_kept e = rw e

module _ (h w R K : ℕ) (p : List ℤ) (c : List ℕ) where
  print_7 : ltb (quota_limit h w R) K ≡ true → kept_text h w R K p c ≡ refusal_text 7
  print_7 e = rw e

  pub print_sheet : ltb (quota_limit h w R) K ≡ false → kept_text h w R K p c ≡ sheet_text h w R (kept_of R h w K p) c
  print_sheet e = rw e

pub held_text : (h w R K : ℕ) (s : List ℕ) → picture_text h w R K (map held_to s) ≡ picture_text h w R K s
held_text h w R K s = go (every is_sample s) refl
  where
    go : (t : Bool) → every is_sample s ≡ t → picture_text h w R K (map held_to s) ≡ picture_text h w R K s
    go true e = ap (picture_text h w R K) (held_same s e)
    go false e = print_4 h w R K (map held_to s) (same_samples s ∙ e) ∙ sym (print_4 h w R K s e)

-- a picture that passed
module _ (h w R : ℕ) (s : List ℕ) (a : is_sides h w ≡ true) (b : is_depth R h w ≡ true) (k : length s ≡ w * h) where
  abbrev P : List ℤ
  P = plane_of R h w s

  abbrev C : List ℕ
  C = covers_of R h w s

  module _ (p : List ℤ) (c : List ℕ) (q : List ℤ) (kp : length p ≡ w * h) (kc : length c ≡ all_blocks R h w) (kq : length q ≡ w * h) where
    decomposes : decompose_refusal h w R s p c q ≡ refuse_if (not (every is_sample s)) 4 0
    decomposes = rw (a, b, eq-eqb (length s) (w * h) k, eq-eqb (length p) (w * h) kp, eq-eqb (length c) (all_blocks R h w) kc, eq-eqb (length q) (w * h) kq)

    bad-samples : {p' q' : List ℤ} {c' : List ℕ} (r : Refusal) → Decomposed h w R s p p' c c' q q' (number_of r) → (every is_sample s ≡ false) × (number_of r ≡ 4)
    bad-samples r d = let x = refused_by r (not (every is_sample s)) 4 (d.number ∙ decomposes) in (is_not (every is_sample s) x.0, x.1)

    good-samples : {p' q' : List ℤ} {c' : List ℕ} → Decomposed h w R s p p' c c' q q' 0 → every is_sample s ≡ true
    good-samples d = (past (every is_sample s) 3 (d.number ∙ decomposes)).0

  module _ (g : every is_sample s ≡ true) where
    below : (i : ℕ) → i < w * h → get_or s i 0 ≤ 4095
    below = small_samples s g k

    ranges : in_range R h w (image_of h P) ≡ true
    ranges = let q = passed h w R a b in is_true (in_range R h w (image_of h P)) (go R q.fits q.some_level)
      where
        go : (r : ℕ) → Fits r h w → 1 ≤ r → T (in_range r h w (image_of h (plane_of r h w s)))
        go zero f l = absurd (omega arith)
        go (suc r) f l = plane_accepted r h w f (covers_of (suc r) h w s) s below

    kept-ranges : (K : ℕ) → in_range R h w (image_of h (kept_of R h w K P)) ≡ true
    kept-ranges K = let q = passed h w R a b in is_true _ (selected_accepted R h w q.some_level q.fits _ P (truth ranges))

    numbers : every is_number C ≡ true
    numbers =
        is_true (every is_number C)
        (every_of is_number C 0
        (λ i l. let m = covers_numbers R h w (picture_of h s) i (rw (← covers_length R h w (picture_of h s)) l) in both (leb 1 (get_or C i 0)) (leb (get_or C i 0) 117) (le→leb 1 _ m.0) (le→leb _ 117 m.1)))

    keeps : (K : ℕ) → keep_refusal h w R P K ≡ refuse_if (ltb (quota_limit h w R) K) 7 0
    keeps K = front_passes h w R P (record { sided = a; deep = b; long = slice_length h w _; range = ranges }) _

    bad-quota : {p' : List ℤ} (K : ℕ) (r : Refusal) → Kept h w R P p' K (number_of r) 0 → (ltb (quota_limit h w R) K ≡ true) × (number_of r ≡ 7)
    bad-quota K r d = refused_by r (ltb (quota_limit h w R) K) 7 (d.number ∙ keeps K)

    good-quota : {p' : List ℤ} (K m : ℕ) → Kept h w R P p' K 0 m → ltb (quota_limit h w R) K ≡ false
    good-quota K m d = (within (ltb (quota_limit h w R) K) 6 (d.number ∙ keeps K)).0

    writes : h ≤ 32 → w ≤ 32 → (K : ℕ) (out : List ℕ) → 65536 ≤ length out → write_refusal h w R (kept_of R h w K P) C out ≡ 0
    writes l m K out room =
        let x = sheet_bound h w R (kept_of R h w K P) C a b l m in
        rw (a, b, eq-eqb (length (kept_of R h w K P)) (w * h) (slice_length h w _), eq-eqb (length C) (all_blocks R h w) (covers_length R h w (picture_of h s)), numbers, kept-ranges K, le-ltb (length out) (length (sheet_text h w R (kept_of R h w K P) C)) (omega arith))

-- decomposing: the refusal that came back is printed, or what is left to print is what keeping and writing give
module _ (h w R K : ℕ) (s : List ℕ) (a : is_sides h w ≡ true) (b : is_depth R h w ≡ true) (k : length s ≡ w * h) where
  module _ (p : List ℤ) (c : List ℕ) (q : List ℤ) (kp : length p ≡ w * h) (kc : length c ≡ all_blocks R h w) (kq : length q ≡ w * h) (p' : List ℤ) (c' : List ℕ) (q' : List ℤ) (o : Result ⊤ Refusal) (d : Decomposed h w R s p p' c c' q q' (answer_of o)) where
    answered : (x : Result ⊤ Refusal) → o ≡ x → Decomposed h w R s p p' c c' q q' (answer_of x)
    answered x e = subst (λ (y : Result ⊤ Refusal). Decomposed h w R s p p' c c' q q' (answer_of y)) e d

    pub end-4 : (r : Refusal) → o ≡ Err r → (m : ℕ) → m ≡ answer_of o → picture_text h w R K s ≡ refusal_text m
    end-4 r e m i =
        let x = bad-samples h w R s a b k p c q kp kc kq r (answered (Err r) e) in
        print_4 h w R K s x.0 ∙ ap refusal_text (sym (i ∙ ap answer_of e ∙ x.1))

    module _ (e : o ≡ (Ok tt)) where
      good : every is_sample s ≡ true
      good = good-samples h w R s a b k p c q kp kc kq (answered (Ok tt) e)

      pub decomposed : OfPicture h w R p' c'
      decomposed = record { samples = s; long = k; good = good; plane = (answered (Ok tt) e).planes; covers = (answered (Ok tt) e).covers }

      pub left : picture_text h w R K s ≡ kept_text h w R K p' c'
      left = print_kept h w R K s good ∙ (λ i. kept_text h w R K (sym (answered (Ok tt) e).planes i) (sym (answered (Ok tt) e).covers i))

-- keeping, and then writing
module _ (h w R K : ℕ) (a : is_sides h w ≡ true) (b : is_depth R h w ≡ true) (p : List ℤ) (c : List ℕ) (g : OfPicture h w R p c) (p' : List ℤ) (u : Result ℕ Refusal) (v : Kept h w R p p' K (answer_of u) (count_of u)) where
  abbrev Q : List ℤ
  Q = kept_of R h w K (plane_of R h w g.samples)

  abbrev D : List ℕ
  D = covers_of R h w g.samples

  kept : (x : Result ℕ Refusal) → u ≡ x → Kept h w R (plane_of R h w g.samples) p' K (answer_of x) (count_of x)
  kept x i = subst (λ (y : List ℤ). Kept h w R y p' K (answer_of x) (count_of x)) g.plane (subst (λ (y : Result ℕ Refusal). Kept h w R p p' K (answer_of y) (count_of y)) i v)

  pub end_7 : (r : Refusal) → u ≡ Err r → (m : ℕ) → m ≡ answer_of u → kept_text h w R K p c ≡ refusal_text m
  end_7 r i m e =
      let x = bad-quota h w R g.samples a b g.long g.good K r (kept (Err r) i) in
      print_7 h w R K p c x.0 ∙ ap refusal_text (sym (e ∙ ap answer_of i ∙ x.1))

  module _ (m₀ : ℕ) (counts : u ≡ Ok m₀) (tall : h ≤ 32) (wide : w ≤ 32) (old new : List ℕ) (room : 65536 ≤ length old) (answer : Result ℕ Refusal) (z : WriteAnswered h w R p' c old new (answer_of answer) (count_of answer)) where
    accepted : write_refusal h w R Q D old ≡ 0
    accepted = writes h w R g.samples a b g.long g.good tall wide K old room

    wrote : (x : Result ℕ Refusal) → answer ≡ x → WriteAnswered h w R Q D old new (answer_of x) (count_of x)
    wrote x i =
        subst (λ (y : List ℤ). WriteAnswered h w R y D old new (answer_of x) (count_of x)) (kept (Ok m₀) counts).planes
        (subst (λ (y : List ℕ). WriteAnswered h w R p' y old new (answer_of x) (count_of x)) g.covers (subst (λ (y : Result ℕ Refusal). WriteAnswered h w R p' c old new (answer_of y) (count_of y)) i z))

    pub end-10 : (r : Refusal) → answer ≡ Err r → ⊥
    end-10 r i = never_zero r ((wrote (Err r) i).number ∙ accepted)

    pub end-sheet : (m : ℕ) → answer ≡ Ok m → Printed (kept_text h w R K p c) old new m
    end-sheet m i =
        let x = wrote (Ok m) i in
        subst (λ (t : List ℕ). Printed t old new m)
        (sym (print_sheet h w R K p c (good-quota h w R g.samples a b g.long g.good K m₀ (kept (Ok m₀) counts)) ∙ (λ j. sheet_text h w R (kept_of R h w K (g.plane j)) (g.covers j))))
        (record {
          size = x.count ∙ ap (λ (y : ℕ). after_call y (length (sheet_text h w R Q D)) 0) accepted;
          slice = x.slice ∙ ap (λ (y : ℕ). after_call y (sheet_text h w R Q D ++ drop (length (sheet_text h w R Q D)) old) old) accepted;
        })
