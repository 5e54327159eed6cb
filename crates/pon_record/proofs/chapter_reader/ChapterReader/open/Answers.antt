use Rattle.std.proofs.Common.{[], List, rules, subst, take, ℕ}
use Rattle.std.specs.Prelude.{◌≢◌}
use Rattle.pon_record.specs.declared.version.Version.{Version}
use Rattle.pon_record.specs.Recordings.{magic}
use Rattle.pon_record.specs.Streams.{Fills}
use Rattle.pon_record.proofs.Streams.{counts_failed, opened, opens_failed, other_magic, short_magic}
use Rattle.pon_record.proofs.chapter_reader.ChapterReader.open.Goals as goal

pub returns-in_err-read_up_to-clause-opens : goal.returns-in_err-read_up_to-clause-opens
returns-in_err-read_up_to-clause-opens g c = λ bytes is. opens_failed bytes _ c.from_residual-in_err-read_up_to.result c.in_err-read_up_to.field-0.0 (search rules) (search rules)

pub returns-then-len-lt-MAGIC_BYTES-clause-opens : goal.returns-then-len-lt-MAGIC_BYTES-clause-opens
returns-then-len-lt-MAGIC_BYTES-clause-opens g c = λ bytes is.
    let fills : Fills [] c.read_up_to.new.buffer.items 8 (g.R.DevRead.remaining c.args.reader.now) (g.R.DevRead.remaining c.read_up_to.new.reader) = search rules in
    short_magic _ _ bytes c.read_up_to.new.buffer.items is fills (search rules)

pub returns-in-Some-clause-opens : goal.returns-in-Some-clause-opens
returns-in-Some-clause-opens g c = λ bytes is.
    let fills : Fills [] c.read_up_to.new.buffer.items 8 (g.R.DevRead.remaining c.args.reader.now) (g.R.DevRead.remaining c.read_up_to.new.reader) = search rules in
    opened _ _ bytes c.read_up_to.new.buffer.items is fills c.in-Some.version (search rules)

pub returns-in-None-clause-opens : goal.returns-in-None-clause-opens
returns-in-None-clause-opens g c = λ bytes is.
    let fills : Fills [] c.read_up_to.new.buffer.items 8 (g.R.DevRead.remaining c.args.reader.now) (g.R.DevRead.remaining c.read_up_to.new.reader) = search rules in
    let other : (v : Version) → take 8 c.read_up_to.new.buffer.items ≢ magic v = subst (λ (l : List ℕ). (v : Version) → take 8 l ≢ magic v) c.deref.ensures.value c.in-None.ensures in
    other_magic _ _ bytes c.read_up_to.new.buffer.items is fills (search rules) other

pub returns-then-len-lt-MAGIC_BYTES-clause-failures : goal.returns-then-len-lt-MAGIC_BYTES-clause-failures
returns-then-len-lt-MAGIC_BYTES-clause-failures g c = c.in_ok-read_up_to.ensures.failures

pub returns-in-Some-clause-failures : goal.returns-in-Some-clause-failures
returns-in-Some-clause-failures g c = c.in_ok-read_up_to.ensures.failures

pub returns-in-None-clause-failures : goal.returns-in-None-clause-failures
returns-in-None-clause-failures g c = c.in_ok-read_up_to.ensures.failures

pub returns-in_err-read_up_to-clause-failures : goal.returns-in_err-read_up_to-clause-failures
returns-in_err-read_up_to-clause-failures g c = counts_failed _ _ c.from_residual-in_err-read_up_to.result c.in_err-read_up_to.field-0.0 (search rules) c.in_err-read_up_to.ensures.failures
