use Rattle.std.proofs.Common.{◌≡◌, ◌+◌, ◌*◌, ◌++◌, [], List, ℕ, length, sym, ◌∙◌, subst}
use Rattle.std.proofs.lemmas.List.{append-nil}
use Rattle.pon_bwmap.specs.MapReading.{ReadsMap}
use Rattle.pon_record_tests.proofs.maps.written.read_again.Goals as goal

reads : (c : goal.After-drop-bytes) → ReadsMap c.as_slice.result.now c.args.map.now 0 (4 + 8 * length c.args.map.now)
reads c =
    let same : c.in-Ok.bytes.items ++ [] ≡ c.as_slice.result.now = append-nil c.in-Ok.bytes.items ∙ sym c.as_slice.ensures.value in
    subst (λ (bytes : List ℕ). ReadsMap bytes c.args.map.now 0 (4 + 8 * length c.args.map.now)) same (c.in-Ok.ensures.reads_back [])

pub returns-in-Ok-clause-ok : goal.returns-in-Ok-clause-ok
returns-in-Ok-clause-ok c = c.read_whole.ensures.ok c.args.map.now 0 (4 + 8 * length c.args.map.now) (reads c)

pub returns-in-Ok-clause-err : goal.returns-in-Ok-clause-err
returns-in-Ok-clause-err c = c.read_whole.ensures.err c.args.map.now 0 (4 + 8 * length c.args.map.now) (reads c)
