-- The replies with the text of a view of some port.
use Rattle.std.proofs.Common.{◌≡◌, List, ap, subst, ◌∙◌, ℕ}
use Rattle.std.specs.Prelude.{Result, Ok, Err, IfOk, OnOk, ◌++◌}
use Rattle.pon_history.specs.Chapters.{Chapter, IsLawfulChapter}
use Rattle.pon_desk.specs.Views.{view_of}
use Rattle.pon_desk.specs.declared.view.PortView.{PortView}
use Rattle.pon_manage.specs.Desks.{AddsText, ShowsState, shown_in}
use Rattle.pon_manage.specs.Text.{shown_line}
use Rattle.pon_manage.specs.declared.show.Shown.{Shown}

pub shown_text : {T E : Type 0} (replies_old replies_new : List ℕ) (r : Result T E) (view : PortView) (shown : Shown) → (at : Chapter) × IsLawfulChapter at × (view ≡ view_of at) → shown ≡ shown_in view →
    OnOk r (replies_new ≡ replies_old ++ shown_line shown) → OnOk r (AddsText ShowsState replies_old replies_new)
shown_text replies_old replies_new (Ok done) view shown seen e is = (shown_line shown, (seen.0, seen.1, ap shown_line (e ∙ ap shown_in seen.2)), is)
shown_text replies_old replies_new (Err refused) view shown seen e is = tt

-- what a call says of the port that it was shown holds for some port with a lawful chapter
pub of_some_port : {T E : Type 0} (P : Chapter → T → Type 0) (r : Result T E) (seen at : Chapter) → IsLawfulChapter at → seen ≡ at → IfOk r (P seen) → IfOk r (λ x. (at : Chapter) × IsLawfulChapter at × P at x)
of_some_port P (Ok x) seen at l is h = (at, l, subst (λ c. P c x) is h)
of_some_port P (Err refused) seen at l is h = tt
