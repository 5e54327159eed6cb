use Rattle.std.proofs.Common.{[], None, rules, subst, sym, ◌∙◌}
use Rattle.std.proofs.KnownBytes.{Consumes-trans}
use Rattle.pon_device.specs.Device.{Consumes}
use Rattle.pon_record.specs.declared.limits.TheConstants.{HEAD_BYTES}
use Rattle.pon_record.specs.Streams.{Fills, IsSize, TellsSize}
use Rattle.pon_record.proofs.ChapterFronts.{front_of_both, front_of_head}
use Rattle.pon_record.proofs.Streams.{counts_failed}
use Rattle.pon_record.proofs.fronts.read_front.Goals as goal

pub returns-in_err-read_up_to-clause-failures : goal.returns-in_err-read_up_to-clause-failures
returns-in_err-read_up_to-clause-failures g c = counts_failed _ _ c.from_residual.result c.in_err-read_up_to.field-0.0 (search rules) c.in_err-read_up_to.ensures.failures

pub returns-in_ok-read_up_to-2-clause-ok : goal.returns-in_ok-read_up_to-2-clause-ok
returns-in_ok-read_up_to-2-clause-ok g c =
    let old = g.R.DevRead.remaining c.args.reader.now in
    let mid = g.R.DevRead.remaining c.read_up_to.new.reader in
    let new = g.R.DevRead.remaining c.read_up_to-in-Some.new.reader in
    let head = c.read_up_to.new.buffer.items in
    let front = c.read_up_to-in-Some.new.buffer.items in
    let fills : Fills [] head HEAD_BYTES old mid = search rules in
    let is : IsSize head c.in-Some.size = search rules in
    let rest : Fills head front c.in-Some.size mid new = c.in_ok-read_up_to-2.ensures.ok in
    let begun : Consumes old mid head = subst (Consumes old mid) (sym fills.grown) fills.taken in
    let taken : Consumes old new front = subst (Consumes old new) (sym rest.grown) (Consumes-trans old mid new head rest.more begun rest.taken) in
    front_of_both old mid new head front c.in-Some.size fills is rest taken

pub returns-in_ok-read_up_to-2-clause-failures : goal.returns-in_ok-read_up_to-2-clause-failures
returns-in_ok-read_up_to-2-clause-failures g c = c.in_ok-read_up_to-2.ensures.failures ∙ c.in_ok-read_up_to.ensures.failures

pub returns-in_default-clause-ok : goal.returns-in_default-clause-ok
returns-in_default-clause-ok g c =
    let head = c.read_up_to.new.buffer.items in
    let fills : Fills [] head HEAD_BYTES (g.R.DevRead.remaining c.args.reader.now) (g.R.DevRead.remaining c.read_up_to.new.reader) = search rules in
    let untold : TellsSize head None = search rules in
    front_of_head _ _ head fills untold

pub returns-in_default-clause-failures : goal.returns-in_default-clause-failures
returns-in_default-clause-failures g c = c.in_ok-read_up_to.ensures.failures
