-- The checks of the entry window: the number of each call by what is found, and what is found where none refuses; the laws of windows. Assumes nothing.
use mathlib.Core.Path.{◌≡◌, refl, sym, ap, ◌∙◌}
use mathlib.Core.Bool.{Bool, true, false, not, ◌&&◌}
use mathlib.Core.List.{List}
use Prim.Native.Nat.{ℕ, ◌+◌, ◌*◌, ◌-◌, ◌<◌, ◌≤◌}
use native.Mathlib.Omega.{arith}
use borrow.Author.Tests.{eqb-true}
use lib.Dec.{T, leb, leb→le, le→leb, ltb, ltb→lt, lt→ltb}
use lib.IntN.{ℤ, pos}
use lib.ListN.{length, replicate, length-replicate}
use Rattle.refusals.specs.Refusal.{number_of, refuse_if, after_call}
use Rattle.refusals.specs.declared.Refusal.{Refusal}
use Rattle.refusals.proofs.After.{unchanged, past}
use Rattle.integers.proofs.Tests.{is_true, is_false, both, both_left, both_right, both_true, two_hold, not_both, eq→eqb}
use Rattle.terms.specs.Terms.{Terms}
use Rattle.pyramid.specs.Sides.{is_plane, is_coverings}
use Rattle.pyramid.specs.Slices.{samples_of}
use Rattle.strips.specs.Strip.{Strip, strip_of, is_sided, is_deep, is_framed, is_numbered, is_ranged, Framed, Passes}
use Rattle.strips.proofs.Passed.{framed_of, of_framed}
use Rattle.places.specs.Sizes.{size_refusal}
use Rattle.places.proofs.Sides.{size_past}
use Rattle.coder.specs.Claims.{Left}
use Rattle.coder.specs.Entries.{restore_refusal}
use Rattle.coder.proofs.Gates.{truth}
use Rattle.windows.specs.declared.View.{View}
use Rattle.viewer.specs.Window.{is_within, fits_window, window_of, window_refusal, Viewed}
use Rattle.windows.specs.Shown.{Inside}
use Rattle.viewer.specs.Claims.{Fitting, Exact, WindowChecks, ViewerLaws}
use Rattle.viewer.proofs.Windows.{long, at, whole}

-- ---- 17, as facts
within_is : (n first count : ℕ) → T (is_within n first count) → (0 < count) × (first + count ≤ n)
within_is n first count t = (ltb→lt 0 count (both_left (ltb 0 count) (leb (first + count) n) t), leb→le (first + count) n (both_right (ltb 0 count) (leb (first + count) n) t))

is_within_law : (n first count : ℕ) → 0 < count → first + count ≤ n → T (is_within n first count)
is_within_law n first count k l = both (ltb 0 count) (leb (first + count) n) (lt→ltb 0 count k) (le→leb (first + count) n l)

module _ (h w : ℕ) (v : View) where
  pub inside : T (fits_window h w v) → Inside v h w
  inside t =
      let a = within_is h v.top v.tall (both_left (is_within h v.top v.tall) (is_within w v.left v.wide) t) in
      let b = within_is w v.left v.wide (both_right (is_within h v.top v.tall) (is_within w v.left v.wide) t) in
      record { some_rows = a.0; some_columns = b.0; down = a.1; across = b.1 }

  of_test : T (fits_window h w v) → Fitting h w v
  of_test t = let i = inside t in record { some_rows = i.some_rows; some_columns = i.some_columns; rows = λ y l. omega (arith, i.down); columns = λ x l. omega (arith, i.across) }

  fits_test : Fitting h w v → T (fits_window h w v)
  fits_test f =
      both (is_within h v.top v.tall) (is_within w v.left v.wide)
      (is_within_law h v.top v.tall f.some_rows (omega (arith, f.some_rows, f.rows (v.tall - 1) (omega (arith, f.some_rows)))))
      (is_within_law w v.left v.wide f.some_columns (omega (arith, f.some_columns, f.columns (v.wide - 1) (omega (arith, f.some_columns)))))

-- ---- the number of each call

-- the list of checks, by what each finds
abbrev chain : Bool → Bool → Bool → Bool → Bool → Bool → ℕ
chain sided deep fits framed numbered ranged = refuse_if (not sided) 1 (refuse_if (not deep) 2 (refuse_if (not fits) 17 (refuse_if (not framed) 3 (refuse_if (not numbered) 5 (refuse_if (not ranged) 6 0)))))

module _ (s : Strip) (v : View) (samples : List ℕ) where
  abbrev fits : Bool
  fits = fits_window s.height s.width v

  abbrev framed : Bool
  framed = is_framed s && is_plane v.tall v.wide samples

  sided : T (is_sided s) → is_sided s ≡ true
  sided t = is_true (is_sided s) t

  deep : T (is_deep s) → is_deep s ≡ true
  deep t = is_true (is_deep s) t

  fitting : Fitting s.height s.width v → fits ≡ true
  fitting f = is_true fits (fits_test s.height s.width v f)

  in_frame : Framed s → Exact v samples → framed ≡ true
  in_frame f e = two_hold (is_framed s) (is_plane v.tall v.wide samples) (framed_of s f) (eq→eqb e)

  off_frame : (Framed s → Exact v samples → ⊥) → framed ≡ false
  off_frame f = not_both (is_framed s) (is_plane v.tall v.wide samples) (λ a t. f (of_framed s (is_true (is_framed s) a)) (eqb-true _ _ (is_true (is_plane v.tall v.wide samples) t)))

  numbered : T (is_numbered s) → is_numbered s ≡ true
  numbered t = is_true (is_numbered s) t

  pub checks : WindowChecks s v samples
  checks = record {
    side = λ f i. chain (is_false (is_sided s) f i) (is_deep s) fits framed (is_numbered s) (is_ranged s);
    depth = λ a f i. chain (sided a i) (is_false (is_deep s) f i) fits framed (is_numbered s) (is_ranged s);
    window = λ a b f i. chain (sided a i) (deep b i) (is_false fits (λ t. f (of_test s.height s.width v t)) i) framed (is_numbered s) (is_ranged s);
    frame = λ a b c f i. chain (sided a i) (deep b i) (fitting c i) (off_frame f i) (is_numbered s) (is_ranged s);
    covering = λ a b c d e f i. chain (sided a i) (deep b i) (fitting c i) (in_frame d e i) (is_false (is_numbered s) f i) (is_ranged s);
    coefficient = λ a b c d e n f i. chain (sided a i) (deep b i) (fitting c i) (in_frame d e i) (numbered n i) (is_false (is_ranged s) f i);
    accepted = λ p c e i. chain (sided p.sides i) (deep p.depth i) (fitting c i) (in_frame p.frame e i) (numbered p.numbers i) (is_true (is_ranged s) p.ranges i);
  }

  -- ---- what is found where none refuses
  pub record Found : Type 0 where
    pub passes : Passes s
    pub inside : Inside v s.height s.width
    pub exact : Exact v samples

  pub window_past : 0 ≡ window_refusal s v samples → Found
  window_past e =
      let z = size_past s.height s.width s.levels e in
      let f = past fits 16 z.1 in
      let c = past framed 2 f.1 in
      let d = past (is_numbered s) 4 c.1 in
      let r = past (is_ranged s) 5 d.1 in
      let g = both_true (is_framed s) (is_plane v.tall v.wide samples) c.0 in
      record {
        passes = record { sides = truth z.0.sided; depth = truth z.0.deep; frame = of_framed s g.0; numbers = truth d.0; ranges = truth r.0 };
        inside = inside s.height s.width v (truth f.0);
        exact = eqb-true _ _ g.1;
      }

  pub refuses : (r : Refusal) → number_of r ≡ window_refusal s v samples → Viewed s v samples samples (number_of r)
  refuses r e = record { number = e; image = unchanged r _ samples }

-- ---- beside restoring

-- the checks from 17 on, where the window fits and its slice is of exact length; and check 3 of restoring, where the three slices that it fills are
frames : (f p c t n m k : Bool) (rest : ℕ) → T f → T t → T n → T m → T k
    → refuse_if (not f) 17 (refuse_if (not ((p && c) && t)) 3 rest) ≡ refuse_if (not (p && (c && (n && (m && k))))) 3 rest
frames false p c t n m k rest a b d e g = absurd a
frames true p c false n m k rest a b d e g = absurd b
frames true p c true false m k rest a b d e g = absurd d
frames true p c true true false k rest a b d e g = absurd e
frames true p c true true true false rest a b d e g = absurd g
frames true false c true true true true rest a b d e g = refl
frames true true false true true true true rest a b d e g = refl
frames true true true true true true true rest a b d e g = refl

alike : (s : Strip) (v : View) (window : List ℕ) (numerators scratch : List ℤ) (samples : List ℕ) → Fitting s.height s.width v → Exact v window
    → length numerators ≡ s.width * s.height → length samples ≡ s.width * s.height → length scratch ≡ s.width * s.height
    → window_refusal s v window ≡ restore_refusal s.height s.width s.levels s.plane s.coverings numerators samples scratch
alike s v window numerators scratch samples f e a b c =
    ap (size_refusal s.height s.width s.levels)
    (frames (fits_window s.height s.width v) (is_plane s.height s.width s.plane) (is_coverings s.levels s.height s.width s.coverings) (is_plane v.tall v.wide window)
    (is_plane s.height s.width numerators) (is_plane s.height s.width samples) (is_plane s.height s.width scratch) (refuse_if (not (is_numbered s)) 5 (refuse_if (not (is_ranged s)) 6 0))
    (fits_test s.height s.width v f) (eq→eqb e) (eq→eqb a) (eq→eqb b) (eq→eqb c))

picture : (t : Terms) (height width levels : ℕ) (samples : List ℕ) (plane : List ℤ) (coverings : List ℕ) → Left t height width levels samples plane coverings
    → (v : View) (window window' : List ℕ) (n : ℕ) → Fitting height width v → Exact v window
    → Viewed (strip_of height width levels plane coverings) v window window' n
    → (n ≡ 0) × (window' ≡ window_of height v samples)
picture t height width levels samples plane coverings d v window window' n f e r =
    (none, r.image ∙ ap (λ (m : ℕ). after_call m (window_of height v (samples_of levels height width coverings plane)) window) none ∙ ap (window_of height v) d.exact)
  where
    zeros : List ℤ
    zeros = replicate (width * height) (pos 0)

    blank : List ℕ
    blank = replicate (width * height) 0

    none : n ≡ 0
    none =
        r.number
        ∙ alike (strip_of height width levels plane coverings) v window zeros zeros blank f e (length-replicate (width * height) (pos 0)) (length-replicate {A = ℕ} (width * height) 0) (length-replicate (width * height) (pos 0))
        ∙ d.restores zeros zeros blank (length-replicate (width * height) (pos 0)) (length-replicate (width * height) (pos 0)) (length-replicate {A = ℕ} (width * height) 0)

pub laws : ViewerLaws
laws = record {
  checks = checks;
  full = λ s numerators numerators' samples samples' scratch scratch' v window window' r w. w.image ∙ ap (window_of s.height v) (sym r.image);
  at = at;
  long = long;
  whole = whole;
  alike = alike;
  picture = picture;
}
