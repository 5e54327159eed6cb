use Rattle.std.proofs.Common.{[]}
use Rattle.pon_record.specs.Recordings.{IsBadFormat, IsTruncated}
use Rattle.pon_resume.proofs.OneList.{all_of_cut, none_at_fault}
use Rattle.pon_resume.proofs.reading.open_chapters.Goals as goal

pub returns-in-Err-BadFormat-clause-opens : goal.returns-in-Err-BadFormat-clause-opens
returns-in-Err-BadFormat-clause-opens g c = λ bytes is.
    let fault : IsBadFormat bytes c.in-Err-BadFormat.field-0-0 = rw c.in-Err-BadFormat.field-0-is at (c.in-Err-BadFormat.ensures.opens bytes is) in
    none_at_fault bytes c.in-Err-BadFormat.field-0-0 [] fault

pub returns-in-Err-Truncated-clause-opens : goal.returns-in-Err-Truncated-clause-opens
returns-in-Err-Truncated-clause-opens g c = λ bytes is.
    let cut : IsTruncated bytes c.in-Err-Truncated.field-0-0 [] = rw c.in-Err-Truncated.field-0-is at (c.in-Err-Truncated.ensures.opens bytes is) in
    all_of_cut bytes c.in-Err-Truncated.field-0-0 [] cut
