use Rattle.std.proofs.Common.{◌≡◌, ◌+◌, ◌∙◌, ℕ, List, [], ◌∷◌, length, ap, subst, rules}
use Rattle.std.specs.Prelude.{Some, None, slice_get}
use Rattle.std.proofs.lemmas.Option.{same_Some}
use Rattle.pon_guar.specs.Window.{IsWindow, AreConsecutive, WindowMap}
use Rattle.pon_tests.proofs.loads.is_next.Goals as goal

none_leads : (next : ℕ) (ms : List WindowMap) → slice_get ms 0 ≡ None → AreConsecutive next ms
none_leads next [] h = tt
none_leads next (m ∷ ms) h = absurd cc

first_leads : (next : ℕ) (ms : List WindowMap) (m : WindowMap) → IsWindow ms → slice_get ms 0 ≡ Some m → m.frame + length ms ≡ next → AreConsecutive next ms
first_leads next [] m w h e = absurd cc
first_leads next (x ∷ ms) m w h e = subst (λ n. AreConsecutive n (x ∷ ms)) (ap (λ q. q.frame + length (x ∷ ms)) (same_Some x m h) ∙ e) w.frames

pub returns-in-None : goal.returns-in-None
returns-in-None c = λ _. none_leads c.args.frame c.args.loads.now.window (search rules)

pub returns-in-Some : goal.returns-in-Some
returns-in-Some c = λ next. first_leads c.args.frame c.args.loads.now.window c.in-Some.map.now (subst IsWindow c.window.ensures c.maps-maps.ensures.lawful) (search rules) (search rules)
