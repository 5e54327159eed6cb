use Rattle.std.proofs.Common.{◌≡◌, ℕ, ◌++◌, List, map, ap, ◌∙◌, append_assoc, length}
use Rattle.std.specs.Int.{w8, w16, to_be_bytes}
use Rattle.std.specs.List.{flat_map, zip}
use Rattle.pon_admit.specs.declared.rule.Rule.TheVariants as rule
use Rattle.pon_guar.specs.Window.{WindowMap}
use Rattle.pon_guar.specs.declared.window.TheConstants.{MAX_MAPS}
use Rattle.pon_record.specs.declared.version.Version.TheVariants as version
use Rattle.pon_record.specs.Format.{counted, number}
use Rattle.pon_record.specs.Openings.{row_in, window_map_under}
use Rattle.pon_record.specs.Bodies.{head_bytes, recorded_row, row_bytes}
use Rattle.pon_record.proofs.Put.{put_after}
use Rattle.pon_record.proofs.PutLists.{rows_written}
use Rattle.pon_record.proofs.writing.openings.put_opening.Goals as goal

pub returns : goal.returns
returns c =
    let old = c.args.bytes.now.items in
    let s = c.args.value.now in
    let head = c.put_head.new.bytes.items in
    let recorded = map (recorded_row s.book) (zip s.roster s.carries) in
    let rows = to_be_bytes w16 (length recorded) ++ flat_map (row_in version.Two rule.CarryRemainders).write recorded in
    let same : c.rows-rows.result.now ≡ s.roster = c.rows-rows.ensures.value ∙ c.roster.ensures.rows in
    let accounts : c.loads-loads.result.now.accounts ≡ s.book = c.loads-loads.ensures.accounts in
    let carried : c.carries.result.now ≡ s.carries = c.carries.ensures in
    let e1 = c.in_ok-put_all_rows.ensures
    ∙ (λ i. head ++ to_be_bytes w16 (length (same i)) ++ flat_map (row_bytes (accounts i)) (zip (same i) (carried i)))
    ∙ append_assoc head (to_be_bytes w16 (length s.roster)) (flat_map (row_bytes s.book) (zip s.roster s.carries))
    ∙ ap (λ (bytes : List ℕ). head ++ bytes) (rows_written s.book s.roster s.carries c.requires.carries) in
    let t1 = put_after old (head_bytes s) rows head c.put_all_rows.new.bytes.items c.in_ok-put_head.ensures e1 in
    let maps = (counted (number w8) MAX_MAPS (window_map_under rule.CarryRemainders)).write in
    let e2 = c.in_ok-put_window.ensures ∙ ap (λ (w : List WindowMap). c.put_all_rows.new.bytes.items ++ maps w) (c.window.ensures ∙ c.loads-loads.ensures.window) in
    put_after old (head_bytes s ++ rows) (maps s.window) c.put_all_rows.new.bytes.items c.put_window.new.bytes.items t1 e2
