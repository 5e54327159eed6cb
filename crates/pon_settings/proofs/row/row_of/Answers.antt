use Rattle.std.proofs.Common.{◌≡◌, rules}
use Rattle.std.specs.Prelude.{Some, None}
use Rattle.toml.specs.View.{table_view}
use Rattle.pon_descr.specs.Tables.{described, IsDescrFault}
use Rattle.pon_settings.specs.Rows.{numbers_of, id_refusal}
use Rattle.pon_settings.proofs.RowFaults.{faulty_row}
use Rattle.pon_settings.proofs.row.row_of.Goals as goal

pub returns-in-Err-descriptor-clause-fault : goal.returns-in-Err-descriptor-clause-fault
returns-in-Err-descriptor-clause-fault c =
    let t = table_view c.args.table.now in
    let numbers : numbers_of t ≡ Some c.in-Ok.numbers = search rules in
    let ids : id_refusal c.in-Ok.numbers.alloc_id c.in-Ok.numbers.onu ≡ None = search rules in
    let descriptor : IsDescrFault (described t) c.in-Err-descriptor.fault = search rules in
    rw (c.faulty_descriptor.ensures, numbers) (faulty_row c.in-Ok.numbers (described t) c.in-Err-descriptor.fault ids descriptor)
