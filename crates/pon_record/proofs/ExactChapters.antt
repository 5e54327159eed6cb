-- The two directions of the formats of made maps, entries and chapters agree.
use Rattle.std.proofs.Common.{◌≡◌, ℕ, List, ◌++◌, Some, refl, sym, ap, subst, ◌∙◌}
use Rattle.pon_state.specs.declared.checks.TheConstants.{MAX_ENTRIES}
use Rattle.pon_admit.specs.declared.rule.Rule.{Rule}
use Rattle.pon_admit.specs.declared.event.Event.{Event}
use Rattle.pon_admit.specs.declared.event.Event.TheVariants.{Admit, Change, Remove, Report, MakeMap, Fail, Restore}
use Rattle.pon_state.specs.declared.reply.Reply.{Reply}
use Rattle.pon_state.specs.declared.reply.Reply.TheVariants.{Taken, Map}
use Rattle.pon_record.specs.MadeMaps.{made_map, made_of, made_parts}
use Rattle.pon_state.specs.Entry.{Entry}
use Rattle.pon_record.specs.declared.version.Version.{Version}
use Rattle.pon_record.specs.Format.{as_value, followed}
use Rattle.pon_record.specs.Fields.{rule_in}
use Rattle.pon_record.specs.Openings.{Opening, opening_of, opening_parts}
use Rattle.pon_record.specs.Chapters.{Body, body_in, body_of, body_parts, body_under, entry, map_reply, reply_to, tagged_body_in}
use Rattle.pon_record.proofs.Exact.{IsExact, bind_some, both, constants, followed_by, lists, only_those, sizes, some_is, told, wide32}
use Rattle.pon_record.proofs.Exactness.{n8, n32, n64, exact_opening, exact_rule}
use Rattle.pon_record.proofs.ExactCertificates.{exact_certificate}
use Rattle.pon_record.proofs.ExactEvents.{exact_event}
use Rattle.pon_record.proofs.ExactMaps.{exact_map}

pub exact_made_map : IsExact made_map
exact_made_map = told _ made_parts _ (both _ _ n64 (both _ _ exact_map exact_certificate)) (λ x m fits e. ap made_parts (sym (some_is (made_of x) m e)))

map_again : (r : Reply) (rest : List ℕ) → map_reply.Fits r → map_reply.read (map_reply.write r ++ rest) ≡ Some (r, rest)
map_again Taken rest fits = absurd fits
map_again (Map m) rest fits = rw (exact_made_map.again m rest fits) refl

exact_map_reply : IsExact map_reply
exact_map_reply = record {
  again = map_again;
  takes = λ bytes r rest h e.
      let m = bind_some (made_map.read bytes) (λ m. Some (Map m.0, m.1)) (r, rest) e in
      subst (λ y. map_reply.Fits y.0 × (bytes ≡ map_reply.write y.0 ++ y.1)) (some_is (Map m.0.0, m.0.1) (r, rest) m.2) (exact_made_map.takes bytes m.0.0 m.0.1 h m.1);
}

exact_reply_to : (e : Event) → IsExact (reply_to e)
exact_reply_to MakeMap = exact_map_reply
exact_reply_to (Admit r) = constants Taken
exact_reply_to (Change i d) = constants Taken
exact_reply_to (Remove i) = constants Taken
exact_reply_to (Report f u o) = constants Taken
exact_reply_to (Fail c) = constants Taken
exact_reply_to Restore = constants Taken

pub exact_entry : IsExact entry
exact_entry = told _ _ _ (followed_by _ _ exact_event exact_reply_to) (λ x r fits e. ap (λ e. (e.event, e.reply)) (sym (some_is (record { event = x.0; reply = x.1 }) r e)))

exact_under : (v : Version) (r : Rule) → IsExact (body_under v r)
exact_under v r = both _ _ (only_those _ _ n8) (both _ _ n64 (both _ _ (exact_opening v r) (lists _ MAX_ENTRIES _ n32 exact_entry)))

-- the opening has the rule that was read before it
one_body : (v : Version) (x : Rule × (ℕ × (ℕ × (Opening × List Entry)))) (b : Body) → (followed (rule_in v) (body_under v)).Fits x → as_value body_of x ≡ Some b → body_parts b ≡ x
one_body v x b fits e =
    let o : Opening = x.1.1.1.0 in
    let same : x.0 ≡ o.rule = ap (λ o. o.rule) (some_is (opening_of x.0 (opening_parts o)) o fits.1.1.1.0.1) in
    ap body_parts (sym (some_is (body_of x) b e)) ∙ (λ i. (sym same i, x.1))

pub exact_body : (v : Version) → IsExact (body_in v)
exact_body v = told _ body_parts _ (followed_by _ _ (exact_rule v) (exact_under v)) (one_body v)

pub exact_chapter : (v : Version) → IsExact (tagged_body_in v)
exact_chapter v = both _ _ (only_those _ _ n8) (sizes _ wide32 _ (exact_body v))
