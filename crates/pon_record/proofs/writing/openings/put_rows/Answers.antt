use Rattle.std.proofs.Common.{◌≡◌, ◌<◌, ◌≤◌, ◌++◌, length, get_or, refl, ap, ◌∙◌, arith}
use Rattle.std.specs.Prelude.{Some, slice_get}
use Rattle.std.specs.List.{flat_map, zip}
use Rattle.std.proofs.lemmas.List.{take_all}
use Rattle.std.proofs.lemmas.Option.{slice_get-get_or, slice_get_read}
use Rattle.std.proofs.lemmas.Slice.Zip.{length-zip}
use Rattle.pon_admit.specs.declared.row.Row.{Row}
use Rattle.pon_record.specs.Bodies.{row_bytes}
use Rattle.pon_record.proofs.PutLists.{one_more_put, zip_at}
use Rattle.pon_record.proofs.writing.openings.put_rows.Goals as goal

pub loop-place-preserved : goal.loop-place-preserved
loop-place-preserved c =
    let rows = c.args.values.now in
    let carries = c.args.carries.now in
    let place = c.loop-place.place in
    let row : Row = c.index-values-place.result in
    let within : place < length carries = omega (arith, c.requires, c.loop-place-test.true) in
    let at = slice_get_read rows _ place row refl c.loop-place-test.true c.index-values-place.is in
    let also : slice_get carries place ≡ Some (get_or carries place 0) = slice_get-get_or carries place 0 within in
    one_more_put (row_bytes c.args.loads.now.accounts) c.args.bytes.now.items c.loop-place.bytes.items c.put_row.new.bytes.items
    (zip rows carries) place (row, get_or carries place 0) (zip_at rows carries place row (get_or carries place 0) at also) c.loop-place.invariant c.in_ok-put_row.ensures

pub returns : goal.returns
returns c =
    let pairs = zip c.args.values.now c.args.carries.now in
    let all : length pairs ≤ c.loop-place.place = omega (arith, length-zip c.args.values.now c.args.carries.now, c.loop-place-test.false) in
    c.loop-place.invariant ∙ ap (λ xs. c.args.bytes.now.items ++ flat_map (row_bytes c.args.loads.now.accounts) xs) (take_all c.loop-place.place pairs all)
