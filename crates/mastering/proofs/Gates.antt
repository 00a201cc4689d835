-- The checks of the entry restore_master: the number of each call by what is found, and what is found where none refuses. Assumes nothing.
use mathlib.Core.Path.{◌≡◌, refl, ap, ◌∙◌}
use mathlib.Core.Bool.{Bool, true, false, not, ◌&&◌}
use mathlib.Core.List.{List}
use Prim.Native.Nat.{ℕ, ◌*◌, ◌<◌}
use native.Mathlib.Omega.{arith}
use borrow.Author.Tests.{eqb-true}
use lib.Dec.{T}
use lib.IntN.{ℤ, pos}
use lib.ListN.{length, get_or}
use Rattle.refusals.specs.Refusal.{number_of, refuse_if}
use Rattle.refusals.specs.declared.Refusal.{Refusal}
use Rattle.refusals.proofs.After.{unchanged, past}
use Rattle.integers.proofs.Tests.{is_true, is_false, both_true, two_hold, every_at, every_of, eq→eqb}
use Rattle.pyramid.specs.Sides.{is_plane, is_coverings}
use Rattle.pyramid.specs.Slices.{numerators_of}
use Rattle.pyramid.proofs.Slices.{slice_length}
use Rattle.strips.specs.Strip.{Strip, is_sided, is_deep, is_numbered, is_ranged, Framed, Passes}
use Rattle.masters.specs.Whole.{is_whole, are_whole}
use Rattle.masters.proofs.Numerators.{whole}
use Rattle.coder.specs.Entries.{restore_refusal}
use Rattle.coder.proofs.Gates.{truth, restorable_past}
use Rattle.mastering.specs.Entry.{master_refusal, RestoredMaster}
use Rattle.mastering.specs.Claims.{Exact, WholeAt, MasterChecks}

-- the list of checks, by what each finds; `last` is what the checks behind them give
abbrev chain : Bool → Bool → Bool → Bool → Bool → ℕ → ℕ
chain sided deep framed numbered ranged last = refuse_if (not sided) 1 (refuse_if (not deep) 2 (refuse_if (not framed) 3 (refuse_if (not numbered) 5 (refuse_if (not ranged) 6 last))))

-- where one of them refuses, what is behind does not matter
behind : (sided deep framed numbered ranged : Bool) (last : ℕ) → 0 < chain sided deep framed numbered ranged 0 → chain sided deep framed numbered ranged last ≡ chain sided deep framed numbered ranged 0
behind false deep framed numbered ranged last l = refl
behind true false framed numbered ranged last l = refl
behind true true false numbered ranged last l = refl
behind true true true false ranged last l = refl
behind true true true true false last l = refl
behind true true true true true last l = absurd (omega arith)

module _ (s : Strip) (numerators : List ℤ) (samples : List ℕ) (scratch : List ℤ) where
  abbrev lent : Bool
  lent = is_plane s.height s.width numerators && (is_plane s.height s.width samples && is_plane s.height s.width scratch)

  abbrev framed : Bool
  framed = is_plane s.height s.width s.plane && (is_coverings s.levels s.height s.width s.coverings && lent)

  abbrev wholes : Bool
  wholes = are_whole s.levels s.height s.width s.coverings s.plane

  -- check 3, as facts
  in_frame : Framed s → Exact s numerators samples scratch → framed ≡ true
  in_frame f e =
      two_hold (is_plane s.height s.width s.plane) _ (eq→eqb f.0)
      (truth (two_hold (is_coverings s.levels s.height s.width s.coverings) lent (eq→eqb f.1)
      (truth (two_hold (is_plane s.height s.width numerators) _ (eq→eqb e.numerators_long)
      (truth (two_hold (is_plane s.height s.width samples) (is_plane s.height s.width scratch) (eq→eqb e.samples_long) (eq→eqb e.scratch_long)))))))

  off_frame : (Framed s → Exact s numerators samples scratch → ⊥) → framed ≡ false
  off_frame f =
      is_false framed
      (λ t.
      let a = both_true (is_plane s.height s.width s.plane) (is_coverings s.levels s.height s.width s.coverings && lent) (is_true framed t) in
      let b = both_true (is_coverings s.levels s.height s.width s.coverings) lent a.1 in
      let c = both_true (is_plane s.height s.width numerators) (is_plane s.height s.width samples && is_plane s.height s.width scratch) b.1 in
      let d = both_true (is_plane s.height s.width samples) (is_plane s.height s.width scratch) c.1 in
      f (eqb-true _ _ a.0, eqb-true _ _ b.0) (record { numerators_long = eqb-true _ _ c.0; samples_long = eqb-true _ _ d.0; scratch_long = eqb-true _ _ d.1 }))

  -- 20, as facts
  abbrev values : List ℤ
  values = numerators_of s.levels s.height s.width s.coverings s.plane

  many : length values ≡ s.width * s.height
  many = slice_length s.height s.width _

  pub all_whole : ((k : ℕ) → k < s.width * s.height → WholeAt s k) → wholes ≡ true
  all_whole f = is_true wholes (every_of (is_whole s.levels) values (pos 0) (λ k l. (whole s.levels (get_or values k (pos 0))).1 (f k (omega (arith, many)))))

  one_not : (k : ℕ) → k < s.width * s.height → (WholeAt s k → ⊥) → wholes ≡ false
  one_not k l f = is_false wholes (λ t. f ((whole s.levels (get_or values k (pos 0))).0 (every_at (is_whole s.levels) values (pos 0) t k (omega (arith, many)))))

  sided : T (is_sided s) → is_sided s ≡ true
  sided t = is_true (is_sided s) t

  deep : T (is_deep s) → is_deep s ≡ true
  deep t = is_true (is_deep s) t

  numbered : T (is_numbered s) → is_numbered s ≡ true
  numbered t = is_true (is_numbered s) t

  -- 6 goes before 20
  range_first : T (is_sided s) → T (is_deep s) → Framed s → Exact s numerators samples scratch → T (is_numbered s) → (T (is_ranged s) → ⊥) → master_refusal s numerators samples scratch ≡ 6
  range_first a b c e n f i = chain (sided a i) (deep b i) (in_frame c e i) (numbered n i) (is_false (is_ranged s) f i) (refuse_if (not wholes) 20 0)

  -- where the checks of restoring pass, the last one is left
  last : Passes s → Exact s numerators samples scratch → master_refusal s numerators samples scratch ≡ refuse_if (not wholes) 20 0
  last p e i = chain (sided p.sides i) (deep p.depth i) (in_frame p.frame e i) (numbered p.numbers i) (is_true (is_ranged s) p.ranges i) (refuse_if (not wholes) 20 0)

  pub checks : MasterChecks s numerators samples scratch
  checks = record {
    side = λ f i. chain (is_false (is_sided s) f i) (is_deep s) framed (is_numbered s) (is_ranged s) (refuse_if (not wholes) 20 0);
    depth = λ a f i. chain (sided a i) (is_false (is_deep s) f i) framed (is_numbered s) (is_ranged s) (refuse_if (not wholes) 20 0);
    frame = λ a b f i. chain (sided a i) (deep b i) (off_frame f i) (is_numbered s) (is_ranged s) (refuse_if (not wholes) 20 0);
    covering = λ a b c e f i. chain (sided a i) (deep b i) (in_frame c e i) (is_false (is_numbered s) f i) (is_ranged s) (refuse_if (not wholes) 20 0);
    coefficient = range_first;
    master = λ p e k l f. last p e ∙ ap (λ (b : Bool). refuse_if (not b) 20 0) (one_not k l f);
    accepted = λ p e f. last p e ∙ ap (λ (b : Bool). refuse_if (not b) 20 0) (all_whole f);
  }

  -- ---- what is found where none refuses
  pub record Found : Type 0 where
    pub passes : Passes s
    pub exact : Exact s numerators samples scratch
    pub wholly : T wholes

  pub master_past : 0 ≡ master_refusal s numerators samples scratch → Found
  master_past e =
      let r = restorable_past s.height s.width s.levels s.plane s.coverings numerators samples scratch e in
      let f = r.0.0 in
      record {
        passes = r.0.1;
        exact = record { numerators_long = f.numerators_long; samples_long = f.samples_long; scratch_long = f.scratch_long };
        wholly = truth (past wholes 19 r.1).0;
      }

  pub refuses : (r : Refusal) → number_of r ≡ master_refusal s numerators samples scratch → RestoredMaster s numerators numerators samples samples scratch scratch (number_of r)
  refuses r e = record { number = e; values = unchanged r _ numerators; image = unchanged r _ samples; zeros = unchanged r _ scratch }

  -- ---- beside restoring
  abbrev restoring : ℕ
  restoring = restore_refusal s.height s.width s.levels s.plane s.coverings numerators samples scratch

  -- what restoring refuses is refused alike
  pub alike : 0 < restoring → master_refusal s numerators samples scratch ≡ restoring
  alike l = behind (is_sided s) (is_deep s) framed (is_numbered s) (is_ranged s) (refuse_if (not wholes) 20 0) l

  -- and where all numerators are whole the two are answered alike
  pub as_restoring : wholes ≡ true → master_refusal s numerators samples scratch ≡ restoring
  as_restoring e i = chain (is_sided s) (is_deep s) framed (is_numbered s) (is_ranged s) (refuse_if (not (e i)) 20 0)
