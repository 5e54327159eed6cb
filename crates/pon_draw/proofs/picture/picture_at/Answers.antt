use Rattle.std.proofs.Common.{Option, ap, get_or, length, rules, sym, ◌<◌, ◌≡◌, ◌∙◌}
use Rattle.std.proofs.lemmas.Option.{slice_get-get_or}
use Rattle.pon_draw.proofs.picture.picture_at.Goals as goal

pub returns-clause-drawn : goal.returns-clause-drawn
returns-clause-drawn c drawn =
    let entries = c.args.chapter.now.body.entries in
    let found = c.in-Some.found.now in
    let inside : c.args.entry < length entries = search rules in
    let at : found ≡ get_or entries c.args.entry found = search rules in
    record {
      entry = found;
      made = c.in-Map.made.now;
      here = slice_get-get_or entries c.args.entry found inside ∙ ap Option.Some (sym at);
      is_map = ap (λ e. e.reply) (sym c.in-Map.ensures);
    }
