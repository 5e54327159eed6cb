use Rattle.std.proofs.Common.{◌≡◌, [], ◌∷◌, ◌++◌, rules}
use Rattle.pon_record.specs.Streams.{StandsAfter}
use Rattle.pon_web.specs.Pictures.{HasMap, IsMapOf}
use Rattle.pon_web.proofs.Drawn.{drawn}
use Rattle.pon_web.proofs.picture.draw_from.Goals as goal

pub loop-chapter-init : goal.loop-chapter-init
loop-chapter-init g c = λ bytes there. ([], there)

pub loop-chapter-preserved : goal.loop-chapter-preserved
loop-chapter-preserved g c = λ bytes there.
    let so_far = c.loop-chapter.invariant bytes there in
    let chapter = c.in-Ok-Some.chapter in
    let stands : StandsAfter bytes (so_far.0 ++ chapter ∷ []) c.next.new.self (g.R.DevRead.remaining c.next.new.reader)
    = rw c.in-Ok-Some.field-0-is at (c.in-Ok-Some.ensures.gives bytes so_far.0 so_far.1) in
    (so_far.0 ++ chapter ∷ [], stands)

pub returns-in-Some : goal.returns-in-Some
returns-in-Some g c = λ bytes there.
    let so_far = c.loop-chapter.invariant bytes there in
    let chapter = c.in-Ok-Some.chapter in
    let stands : StandsAfter bytes (so_far.0 ++ chapter ∷ []) c.next.new.self (g.R.DevRead.remaining c.next.new.reader)
    = rw c.in-Ok-Some.field-0-is at (c.in-Ok-Some.ensures.gives bytes so_far.0 so_far.1) in
    let of_port : chapter.body.port ≡ c.args.port = search rules in
    let is : IsMapOf chapter.body.entries c.args.frame c.in-Some.place = search rules in
    let has : HasMap bytes c.args.port c.args.frame = record {
      version = c.next.new.self.version;
      before = so_far.0;
      chapter = chapter;
      rest = stands.rest;
      holds = stands.holds;
      of_port = of_port;
      place = c.in-Some.place;
      is = is;
    } in
    drawn {H = HasMap bytes c.args.port c.args.frame} c.picture_at.result has
