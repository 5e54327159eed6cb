use Rattle.std.proofs.Common.{◌≡◌, ℕ, List, ◌∷◌, ap, drop, filter, get_or, inl, inr, refl, rules, sym, ◌∙◌}
use Rattle.std.specs.Prelude.{◌==◌, sum_by}
use Rattle.pon_guar.specs.Reports.{after_occupancies}
use Rattle.pon_guar.specs.Window.{WindowMap, frame_after, words_to}
use Rattle.pon_guar.proofs.Books.{counted_in_window}
use Rattle.pon_guar.proofs.TakenReports.{counting_rising, none_left, took_none, took_one}
use Rattle.pon_guar.proofs.counting.count_report.Goals as goal
use Rattle.pon_guar.proofs.counting.count_report.Goals.{in-Some-occupancy, in_default}

pub loop-granted-init : goal.loop-granted-init
loop-granted-init c =
    let m : WindowMap = c.index-maps-place.result in
    let ms : List WindowMap = c.args.window.now in
    let r = c.args.report.now in
    let place = c.requires.there in
    let there : m ≡ get_or ms r.map m = search rules in
    let grants : c.into_iter-granted-iterator.result.a.rest.now ≡ filter (λ g. g.onu == r.onu) m.grants = search rules in
    let occupancies : c.into_iter-granted-iterator.result.b.rest.now ≡ c.args.occupancies.now = search rules in
    record {
      rising = c.requires.rising;
      rest =
          (λ j. after_occupancies (λ i. sum_by (words_to r.onu i) (drop r.map ms)) (sym (ap (λ m. m.frame) there ∙ place.is m) j) (grants j) (occupancies j) c.args.accounts.now)
          ∙ counted_in_window (frame_after ms) r.frame r.onu ms c.maps-maps.ensures.lawful.frames r.map place m m (drop r.map ms) there refl c.args.occupancies.now c.args.accounts.now;
    }

pub loop-granted-preserved : goal.loop-granted-preserved
loop-granted-preserved c =
    let r = c.args.report.now in
    let granted : ℕ → ℕ = λ i. sum_by (words_to r.onu i) (drop r.map c.args.window.now) in
    let gs = c.loop-granted.granted-iterator.a.rest.now in
    let ns = c.loop-granted.granted-iterator.b.rest.now in
    let more = c.next.new.self.a.rest.now in
    let others = c.next.new.self.b.rest.now in
    let g = c.in-Some.granted.now in
    let book = c.loop-granted.accounts in
    elim c.match-occupancy.branch [
      | in-Some-occupancy w ↦ record {
        rising = rw (w.accounts-is, w.count.ensures) (counting_rising g.alloc_id _ book c.loop-granted.invariant.rising);
        rest = rw w.accounts-is (took_one granted r.frame gs more g ns others w.in-Some-occupancy.reported w.words_left-words.result w.words_since-granted_since.result
            book w.count.new.accounts _ c.in-Some.ensures.steps.0 (c.in-Some.ensures.steps.1 ∙ ap (λ o. o ∷ others) w.in-Some-occupancy.is) w.count.ensures w.words_left-words.ensures
            w.words_since-granted_since.ensures c.loop-granted.invariant.rest);
      }
      | in_default w ↦ record {
        rising = rw w.accounts-is c.loop-granted.invariant.rising;
        rest = rw w.accounts-is (took_none granted r.frame gs more g ns others book _ c.in-Some.ensures.steps.0 (c.in-Some.ensures.steps.1 ∙ ap (λ o. o ∷ others) w.in_default.is) c.loop-granted.invariant.rest);
      }
    ]

pub returns : goal.returns
returns c = none_left (λ i. sum_by (words_to c.args.report.now.onu i) (drop c.args.report.now.map c.args.window.now)) c.args.report.now.frame
    c.loop-granted.granted-iterator.a.rest.now c.loop-granted.granted-iterator.b.rest.now c.loop-granted.accounts _
    (elim c.in-None.ensures.steps [ inl e ↦ inl e.1.0 | inr e ↦ inr e.1.0 ]) c.loop-granted.invariant.rest
