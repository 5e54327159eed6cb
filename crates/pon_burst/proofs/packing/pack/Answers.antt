use Rattle.std.proofs.Common.{◌≡◌, ℕ, suc, ◌+◌, ◌*◌, ◌<◌, ◌≤◌, cond, List, [], ◌∷◌, ◌++◌, map, set, length, take, get_or, ap, sym, ◌∙◌, arith, inl, inr}
use Rattle.std.specs.Prelude.{◌==◌, count_by, All, AllPairs}
use Rattle.std.proofs.Math.ListN.{drop_of_length-le}
use Rattle.std.proofs.lemmas.Bool.Decides.{eqb_tells}
use Rattle.std.proofs.lemmas.Grind.{drop_more_same}
use Rattle.std.proofs.lemmas.List.{drop_more, drop-set-lt, length-map, map_more, take_all, take_more_set}
use Rattle.std.proofs.lemmas.List.Elements.{All-map, All-more}
use Rattle.std.proofs.lemmas.List.Sums.{sum_by-le}
use Rattle.pon_units.specs.declared.limits.TheConstants.{MAX_SERIES}
use Rattle.pon_units.specs.declared.Granted.{Granted}
use Rattle.pon_lists.proofs.Lists.{count_by-append}
use Rattle.pon_bwmap.specs.Alloc.{Alloc}
use Rattle.pon_burst.specs.declared.layout.Layout.{Layout}
use Rattle.pon_burst.specs.Layout.{IsAfter}
use Rattle.pon_burst.specs.Maps.{map_granting, structure_of}
use Rattle.pon_burst.specs.Series.{Series, grants_of_series, granted_to}
use Rattle.pon_burst.proofs.MapRules.{is_map_of_rising, sound_of_rising, within_frame}
use Rattle.pon_burst.proofs.packing.pack.Invariants.{Packed, granted_of}
use Rattle.pon_burst.proofs.packing.pack.Goals as goal

module _ {gap profile filled : ℕ} {gs rest : List Granted} {r : Granted} {l : Layout} {out old : List Alloc} (p : Packed gap profile gs (r ∷ rest) l filled out old) where
  one_packed : {next : Layout} {a : Alloc} → length gs ≤ length out
      → (filled < length gs → r ≡ get_or gs filled r → IsAfter gap (take filled gs) l → (a ≡ structure_of gap profile gs r) × IsAfter gap (take (filled + 1) gs) next)
      → Packed gap profile gs rest next (filled + 1) (set out filled a) old
  one_packed {next} {a} room step =
      let lt : filled < length gs = omega (arith, p.count) in
      let cut = sym (drop_more gs filled r lt) ∙ p.left in
      let is : r ≡ get_or gs filled r = cc in
      let done = step lt is p.after in
      record {
        count = omega (arith, p.count);
        left = cc;
        after = done.1;
        structures = rw (take_more_set out filled a (omega arith), map_more (structure_of gap profile gs) gs filled r lt, ← is, p.structures, done.0) (λ i. map (structure_of gap profile gs) (take filled gs) ++ structure_of gap profile gs r ∷ []);
        kept = drop-set-lt (filled + 1) out filled a (omega arith) ∙ drop_more_same out old filled p.kept;
      }

all_packed : {gap profile filled : ℕ} {gs : List Granted} {l : Layout} {out old : List Alloc} → Packed gap profile gs [] l filled out old → (filled ≡ length gs) × (take filled out ≡ map_granting gap profile gs)
all_packed {gap} {profile} {filled} {gs} p = (omega (arith, p.count), p.structures ∙ ap (map (structure_of gap profile gs)) (take_all filled gs (omega (arith, p.count))))

-- ONUs in ascending order have no more grants than the series of each
counted : (u most : ℕ) (ss : List Series) → AllPairs (λ s t. s.0 < t.0) ss → All (λ s. s.0 ≡ u → length s.1.items ≤ most) ss → count_by (λ g. g.onu == u) (grants_of_series ss) ≤ most
counted u most [] rise short = omega arith
counted u most (s ∷ ss) rise short =
    let later : AllPairs (λ s t. s.0 < t.0) ss = λ i j d l k. rise (suc i) (suc j) d (omega (arith, l)) (omega (arith, k)) in
    let parts = count_by-append (λ g. g.onu == u) (granted_to s) (grants_of_series ss) in
    let own : count_by (λ g. g.onu == u) (granted_to s) ≤ length (granted_to s) * cond (s.0 == u) 1 0
    = sum_by-le (λ g. cond (g.onu == u) 1 0) (cond (s.0 == u) 1 0) (granted_to s) (All-map (λ g. cond (g.onu == u) 1 0 ≤ cond (s.0 == u) 1 0) (granted_of s.0) s.1.items (λ k d lt. omega arith)) in
    elim (eqb_tells s.0 u) [
      | inl e ↦
          let none = counted u 0 ss later (λ k d lt same. absurd (omega (arith, rise 0 (suc k) d (omega arith) (omega (arith, lt)), same, e.1))) in
          omega (arith, parts, rw e.0 at own, length-map s.1.items (granted_of s.0), short 0 s (omega arith) e.1, none)
      | inr e ↦ omega (arith, parts, rw e.0 at own, counted u most ss later (λ k d lt. short (suc k) d (omega (arith, lt))))
    ]

pub structure-requires : goal.structure-requires
structure-requires c = omega (arith, c.loop-alloc_id.invariant.after.end, within_frame c.args.gap (grants_of_series c.args.onus.now) c.loop-alloc_id.filled c.requires.fit)

pub bounds-out-filled : goal.bounds-out-filled
bounds-out-filled c =
    let cut = drop_more c.as_slice-alloc_id-items.result.now c.loop-alloc_id.alloc_id-index c.loop-alloc_id-item.result c.loop-alloc_id-test.true in
    let p = rw cut at c.loop-alloc_id.invariant in
    omega (arith, p.count)

pub loop-alloc_id-preserved : goal.loop-alloc_id-preserved
loop-alloc_id-preserved c =
    let cut = drop_more c.as_slice-alloc_id-items.result.now c.loop-alloc_id.alloc_id-index c.loop-alloc_id-item.result c.loop-alloc_id-test.true in
    let p = rw (cut, ← c.loop-alloc_id-item.is) at c.loop-alloc_id.invariant in
    one_packed p (omega arith) (c.structure.ensures (grants_of_series c.args.onus.now) c.loop-alloc_id.filled c.requires.order)

pub loop-onu-preserved : goal.loop-onu-preserved
loop-onu-preserved c = record {
  packed = rw (drop_of_length-le c.as_slice-alloc_id-items.result.now c.loop-alloc_id-test.false) at c.loop-alloc_id.invariant;
  short = All-more (λ s. length s.1.items ≤ MAX_SERIES) c.args.onus.now c.loop-onu.onu-index c.loop-onu-item.result c.loop-onu-test.true c.loop-onu.invariant.short
      (rw (← c.loop-onu-item.is) (omega (arith, ap length c.as_slice-alloc_id-items.ensures.value)));
}

written : (c : goal.After-loop-onu) → (c.loop-onu.filled ≡ length (grants_of_series c.args.onus.now)) × (take c.loop-onu.filled c.loop-onu.out ≡ map_granting c.args.gap c.args.profile (grants_of_series c.args.onus.now))
written c = all_packed (rw (drop_of_length-le c.args.onus.now c.loop-onu-test.false) at c.loop-onu.invariant.packed)

pub returns-clause-count : goal.returns-clause-count
returns-clause-count c = (written c).0

pub returns-clause-structures : goal.returns-clause-structures
returns-clause-structures c = (written c).1

pub returns-clause-rest : goal.returns-clause-rest
returns-clause-rest c = c.loop-onu.invariant.packed.kept

pub returns-clause-sound : goal.returns-clause-sound
returns-clause-sound c = rw ((written c).1) (sound_of_rising c.args.gap c.args.profile (grants_of_series c.args.onus.now) c.requires.order c.requires.fit)

pub returns-clause-map : goal.returns-clause-map
returns-clause-map c = λ few.
    let short = rw (take_all c.loop-onu.onu-index c.args.onus.now c.loop-onu-test.false) at c.loop-onu.invariant.short in
    rw ((written c).1) (is_map_of_rising c.args.gap c.args.profile (grants_of_series c.args.onus.now) c.requires.order (λ u. counted u 16 c.args.onus.now c.requires.onus (λ k d lt _. short k d lt))
    (omega (arith, few, (written c).0)) c.requires.fit)
