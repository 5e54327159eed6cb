use Rattle.pon_record.specs.Recordings.{IsBadFormat, IsTruncated}
use Rattle.pon_resume.proofs.OneList.{all_of_cut, given, none_at_fault}
use Rattle.pon_resume.proofs.reading.next_chapter.Goals as goal

pub returns-in-Ok-clause-gives : goal.returns-in-Ok-clause-gives
returns-in-Ok-clause-gives g c = λ bytes whole stands. given bytes whole _ _ c.in-Ok.next (c.in-Ok.ensures.gives bytes whole stands)

pub returns-in-Err-BadFormat-clause-gives : goal.returns-in-Err-BadFormat-clause-gives
returns-in-Err-BadFormat-clause-gives g c = λ bytes whole stands.
    let fault : IsBadFormat bytes c.in-Err-BadFormat.field-0-0 = rw c.in-Err-BadFormat.field-0-is at (c.in-Err-BadFormat.ensures.gives bytes whole stands) in
    none_at_fault bytes c.in-Err-BadFormat.field-0-0 whole fault

pub returns-in-Err-Truncated-clause-gives : goal.returns-in-Err-Truncated-clause-gives
returns-in-Err-Truncated-clause-gives g c = λ bytes whole stands.
    let cut : IsTruncated bytes c.in-Err-Truncated.field-0-0 whole = rw c.in-Err-Truncated.field-0-is at (c.in-Err-Truncated.ensures.gives bytes whole stands) in
    all_of_cut bytes c.in-Err-Truncated.field-0-0 whole cut
