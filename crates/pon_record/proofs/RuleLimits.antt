-- A chapter of either version is within the limits of its rule.
use Rattle.std.proofs.Common.{ℕ, ◌≤◌, leb, List, [], ◌∷◌, length, arith}
use Rattle.std.specs.List.{AllByRecursion}
use Rattle.std.proofs.lemmas.Bool.{leb-true}
use Rattle.std.proofs.lemmas.List.Elements.{All-from_recursion}
use Rattle.pon_admit.specs.Roster.{max_allocs, max_carry}
use Rattle.pon_admit.specs.declared.rule.Rule.{Rule}
use Rattle.pon_guar.specs.Window.{WindowMap}
use Rattle.pon_record.specs.declared.row.RawRow.{RawRow}
use Rattle.pon_record.specs.declared.version.Version.{Version}
use Rattle.pon_record.specs.declared.version.Version.TheVariants.{One, Two}
use Rattle.pon_record.specs.Fields.{carry_in}
use Rattle.pon_record.specs.Openings.{KeepsLimits, row_in, window_map_under}
use Rattle.pon_record.specs.Chapters.{Body, FitsChapter}
use Rattle.pon_record.proofs.Exact.{passed}

carry_range : (v : Version) (r : Rule) (n : ℕ) → (carry_in v r).Fits n → n ≤ max_carry r
carry_range One r n fits = omega (arith, fits)
carry_range Two r n fits = leb-true n (max_carry r) (passed (leb n (max_carry r)) n n fits.1).0

carries : (v : Version) (r : Rule) (rows : List RawRow) → AllByRecursion (row_in v r).Fits rows → AllByRecursion (λ (x : RawRow). x.carry ≤ max_carry r) rows
carries v r [] fits = tt
carries v r (x ∷ rows) fits = (carry_range v r x.carry fits.0.0.1.1.1.1.1, carries v r rows fits.1)

grants : (r : Rule) (ms : List WindowMap) → AllByRecursion (window_map_under r).Fits ms → AllByRecursion (λ (m : WindowMap). length m.grants ≤ max_allocs r) ms
grants r [] fits = tt
grants r (m ∷ ms) fits = (fits.0.0.1.0.1, grants r ms fits.1)

pub keeps_limits : (v : Version) (b : Body) → FitsChapter v b → KeepsLimits b.opening
keeps_limits v b fits =
    let r : Rule = b.opening.rule in
    let parts = fits.1.0.0.1.1.1.0.0 in
    record {
      few_rows = parts.1.1.1.1.1.0.1;
      carries_in_range = All-from_recursion (λ (x : RawRow). x.carry ≤ max_carry r) b.opening.rows (carries v r b.opening.rows parts.1.1.1.1.1.0.2);
      few_grants = All-from_recursion (λ (m : WindowMap). length m.grants ≤ max_allocs r) b.opening.window (grants r b.opening.window parts.1.1.1.1.1.1.2);
    }
