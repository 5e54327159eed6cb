use Rattle.std.proofs.Common.{◌≡◌, ap, rules, set, subst, sym}
use Rattle.std.specs.Prelude.{Some}
use Rattle.pon_resume.specs.LastChapters.{AreLast}
use Rattle.pon_resume.proofs.Further.{further}
use Rattle.pon_resume.proofs.last.LastChapters.keep.Goals as goal

pub returns : goal.returns
returns c = λ earlier h.
    let lasts = c.self.inside.chapters.items in
    let chapter = c.args.chapter in
    let port : c.from-port.result ≡ chapter.body.port = search rules in
    further lasts _ chapter c.self.invariant.len (ap (λ p. set lasts p (Some chapter)) port) earlier (subst (AreLast earlier) (sym c.self.view_is) h)
