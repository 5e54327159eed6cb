use Rattle.std.proofs.Common.{◌≡◌, ◌+◌, ◌<◌, None, length, rules, subst, sym}
use Rattle.pon_lists.specs.Bytes.{AreBytes}
use Rattle.pon_record.specs.Chapters.{FitsChapter, IsCutShort, tagged_body_in}
use Rattle.pon_record.specs.ChapterReading.{BeginsWith}
use Rattle.pon_record.specs.Streams.{HasFront, Position, StandsAfter}
use Rattle.pon_record.proofs.ChapterFronts.{front_is}
use Rattle.pon_record.proofs.Streams.{at_end, counts_failed, cut_here, gives_failed, none_here, one_further}
use Rattle.pon_record.proofs.chapter_reader.ChapterReader.next.Goals as goal

pub returns-in_err-read_front-clause-gives : goal.returns-in_err-read_front-clause-gives
returns-in_err-read_front-clause-gives g c = λ bytes whole stands. gives_failed bytes whole _ _ c.from_residual.result c.in_err-read_front.field-0.0 (search rules) (search rules)

pub returns-then-is_empty-clause-gives : goal.returns-then-is_empty-clause-gives
returns-then-is_empty-clause-gives g c = λ bytes whole stands.
    let old = g.R.DevRead.remaining c.args.reader.now in
    let new = g.R.DevRead.remaining c.read_front.new.reader in
    let front = c.read_front.new.buffer.items in
    let here : StandsAfter bytes whole (record { version = c.self.inside.version; at = c.self.inside.at }) old = subst (λ (p : Position). StandsAfter bytes whole p old) (sym c.self.view_is) stands in
    let has : HasFront old new front = c.in_ok-read_front.ensures.ok in
    let none : length front ≡ 0 = search rules in
    at_end bytes whole c.self.inside.version c.self.inside.at old new front here has none

pub returns-in-Some-clause-gives : goal.returns-in-Some-clause-gives
returns-in-Some-clause-gives g c = λ bytes whole stands.
    let old = g.R.DevRead.remaining c.args.reader.now in
    let new = g.R.DevRead.remaining c.read_front.new.reader in
    let front = c.read_front.new.buffer.items in
    let here : StandsAfter bytes whole (record { version = c.self.inside.version; at = c.self.inside.at }) old = subst (λ (p : Position). StandsAfter bytes whole p old) (sym c.self.view_is) stands in
    let has : HasFront old new front = search rules in
    let are : AreBytes front = search rules in
    let begins : BeginsWith c.self.inside.version front c.self.inside.at c.in-Ok.chapter c.in-Ok.field-0-1 = search rules in
    let moved : c.in-Some.next ≡ c.self.inside.at + length front = search rules in
    one_further bytes whole c.self.inside.version c.self.inside.at old new front here has c.in-Ok.chapter c.in-Ok.field-0-1 c.in-Some.next are begins moved

pub returns-in-Some-clause-fits : goal.returns-in-Some-clause-fits
returns-in-Some-clause-fits g c =
    let front = c.read_front.new.buffer.items in
    let has : HasFront (g.R.DevRead.remaining c.args.reader.now) (g.R.DevRead.remaining c.read_front.new.reader) front = search rules in
    let are : AreBytes front = search rules in
    let begins : BeginsWith c.self.inside.version front c.self.inside.at c.in-Ok.chapter c.in-Ok.field-0-1 = search rules in
    subst (λ (p : Position). FitsChapter p.version c.in-Ok.chapter.body) c.self.view_is (front_is c.self.inside.version front c.in-Ok.chapter c.self.inside.at c.in-Ok.field-0-1 are has.within begins).0

pub returns-in-Err-Malformed-clause-gives : goal.returns-in-Err-Malformed-clause-gives
returns-in-Err-Malformed-clause-gives g c = λ bytes whole stands.
    let old = g.R.DevRead.remaining c.args.reader.now in
    let new = g.R.DevRead.remaining c.read_front.new.reader in
    let front = c.read_front.new.buffer.items in
    let here : StandsAfter bytes whole (record { version = c.self.inside.version; at = c.self.inside.at }) old = subst (λ (p : Position). StandsAfter bytes whole p old) (sym c.self.view_is) stands in
    let has : HasFront old new front = search rules in
    let some : 0 < length front = search rules in
    let none : ((tagged_body_in c.self.inside.version).read front ≡ None) × (IsCutShort front → ⊥) = search rules in
    none_here bytes whole c.self.inside.version c.self.inside.at old new front here has some none.0 none.1

pub returns-in-Err-CutShort-clause-gives : goal.returns-in-Err-CutShort-clause-gives
returns-in-Err-CutShort-clause-gives g c = λ bytes whole stands.
    let old = g.R.DevRead.remaining c.args.reader.now in
    let new = g.R.DevRead.remaining c.read_front.new.reader in
    let front = c.read_front.new.buffer.items in
    let here : StandsAfter bytes whole (record { version = c.self.inside.version; at = c.self.inside.at }) old = subst (λ (p : Position). StandsAfter bytes whole p old) (sym c.self.view_is) stands in
    let has : HasFront old new front = c.in_ok-read_front.ensures.ok in
    let cut : IsCutShort front = search rules in
    cut_here bytes whole c.self.inside.version c.self.inside.at old new front here has cut

pub returns-then-is_empty-clause-failures : goal.returns-then-is_empty-clause-failures
returns-then-is_empty-clause-failures g c = c.in_ok-read_front.ensures.failures

pub returns-in-Some-clause-failures : goal.returns-in-Some-clause-failures
returns-in-Some-clause-failures g c = c.in_ok-read_front.ensures.failures

pub returns-in-None-clause-failures : goal.returns-in-None-clause-failures
returns-in-None-clause-failures g c = c.in_ok-read_front.ensures.failures

pub returns-in-Err-CutShort-clause-failures : goal.returns-in-Err-CutShort-clause-failures
returns-in-Err-CutShort-clause-failures g c = c.in_ok-read_front.ensures.failures

pub returns-in-Err-Malformed-clause-failures : goal.returns-in-Err-Malformed-clause-failures
returns-in-Err-Malformed-clause-failures g c = c.in_ok-read_front.ensures.failures

pub returns-in-Err-Memory-clause-failures : goal.returns-in-Err-Memory-clause-failures
returns-in-Err-Memory-clause-failures g c = c.in_ok-read_front.ensures.failures

pub returns-in_err-read_front-clause-failures : goal.returns-in_err-read_front-clause-failures
returns-in_err-read_front-clause-failures g c = counts_failed _ _ c.from_residual.result c.in_err-read_front.field-0.0 (search rules) c.in_err-read_front.ensures.failures
