-- The number of bytes of a recorded chapter: the length of its body always fits its field of 4 bytes.
use Rattle.std.proofs.Common.{◌≡◌, ℕ, ◌+◌, ◌*◌, ◌<◌, ◌≤◌, ◌^◌, Bool, List, [], ◌∷◌, ◌++◌, length, refl, ap, ◌∙◌, arith, length-append}
use Rattle.std.specs.Prelude.{Option, map}
use Rattle.std.specs.Int.{w8, w16, w32, w64, to_be_bytes}
use Rattle.std.specs.List.{AllByRecursion, flat_map}
use Rattle.std.proofs.lemmas.List.{length-map}
use Rattle.std.proofs.lemmas.List.Concat.{flat_map-cons}
use Rattle.pon_units.specs.declared.limits.TheConstants.{MAX_STRUCTURES}
use Rattle.pon_guar.specs.declared.window.TheConstants.{MAX_MAPS}
use Rattle.pon_admit.specs.Roster.{max_allocs}
use Rattle.pon_admit.specs.declared.rule.Rule.{Rule}
use Rattle.pon_admit.specs.declared.rule.Rule.TheVariants as rule
use Rattle.pon_bwmap.specs.Alloc.{Alloc}
use Rattle.pon_cert.specs.declared.cert.ClassCert.{ClassCert}
use Rattle.pon_cert.specs.declared.cert.Level.{Level}
use Rattle.pon_cert.specs.declared.cert.Level.TheVariants as level
use Rattle.pon_cert.specs.declared.cert.MapCert.{MapCert}
use Rattle.pon_cert.specs.Spelling.{cert_bytes, class_bytes, flag_byte, level_bytes}
use Rattle.pon_cert.specs.Texts.{FitsCert, FitsClass}
use Rattle.pon_admit.specs.declared.event.Event.{Event}
use Rattle.pon_admit.specs.declared.event.Event.TheVariants.{Admit, Change, Remove, Report, MakeMap, Fail, Restore}
use Rattle.pon_state.specs.Entry.{Entry}
use Rattle.pon_state.specs.declared.reply.MadeMap.{MadeMap}
use Rattle.pon_state.specs.declared.reply.Reply.{Reply}
use Rattle.pon_state.specs.declared.reply.Reply.TheVariants.{Taken, Map}
use Rattle.pon_state.specs.declared.checks.TheConstants.{MAX_ENTRIES}
use Rattle.pon_record.specs.declared.version.Version.{Version}
use Rattle.pon_record.specs.declared.version.Version.TheVariants as version
use Rattle.pon_record.specs.Format.{counted, followed, number}
use Rattle.pon_record.specs.Events.{event, occupancy}
use Rattle.pon_record.specs.MadeMaps.{made_map, structure}
use Rattle.pon_record.specs.Chapters.{Body, body_in, entry, port, reply_to}
use Rattle.pon_units.specs.declared.granted.Granted.{Granted}
use Rattle.pon_guar.specs.Window.{WindowMap}
use Rattle.pon_record.specs.declared.row.RawRow.{RawRow}
use Rattle.pon_record.specs.Fields.{onu_id, rule_in}
use Rattle.pon_record.specs.Openings.{Opening, grant, opening_in, row_in, window_map_under}

occ_size : (occ : List (Option ℕ)) → length (flat_map occupancy.write occ) ≡ 4 * length occ
occ_size [] = refl
occ_size (o ∷ occ) = ap (λ (bs : List ℕ). length bs) (flat_map-cons occupancy.write o occ) ∙ omega (arith, occ_size occ)

event_size : (v : Event) → event.Fits v → length (event.write v) ≤ 76
event_size (Admit r) fits = omega arith
event_size (Change i d) fits = omega arith
event_size (Remove i) fits = omega arith
event_size (Report f u occ) fits = omega (arith, occ_size occ, fits.1.1.1)
event_size MakeMap fits = omega arith
event_size (Fail c) fits = omega arith
event_size Restore fits = omega arith

rows_size : (rows : List Alloc) → length (flat_map structure.write rows) ≡ 8 * length rows
rows_size [] = refl
rows_size (a ∷ rows) = ap (λ (bs : List ℕ). length bs) (flat_map-cons structure.write a rows) ∙ omega (arith, rows_size rows)

level_size : (l : Level) (ss : List Bool) → length (level_bytes l ++ to_be_bytes w16 (length ss) ++ map flag_byte ss) ≡ 19 + length ss
level_size level.All ss = omega (arith, length-map ss flag_byte)
level_size (level.At f) ss = omega (arith, length-map ss flag_byte)

class_size : (c : ClassCert) → FitsClass c → length (class_bytes c) ≤ 531
class_size c fits =
    let all : length (class_bytes c) ≡ 19 + length c.saturated = level_size c.level c.saturated in
    omega (arith, all, fits.count)

cert_size : (m : MapCert) → FitsCert m → length (cert_bytes m) ≤ 1062
cert_size m fits = omega (arith, length-append (class_bytes m.na) (class_bytes m.be), class_size m.na fits.non_assured, class_size m.be fits.best_effort)

made_size : (m : MadeMap) → made_map.Fits m → length (made_map.write m) ≤ 5170
made_size m fits =
    let rows : length m.map ≤ MAX_STRUCTURES = fits.0.1.0.0.1 in
    omega (arith, length-append (flat_map structure.write m.map) (cert_bytes m.cert), rows_size m.map, rows, cert_size m.cert fits.0.1.1)

no_reply : (bs : List ℕ) → length bs ≤ 76 → length (bs ++ []) ≤ 5171
no_reply bs le = omega (arith, length-append bs [], le)

parts_size : (v : Event) (a : Reply) → (followed event reply_to).Fits (v, a) → length (event.write v ++ (reply_to v).write a) ≤ 5171
parts_size (Admit r) a fits = no_reply (event.write (Admit r)) (event_size (Admit r) fits.0)
parts_size (Change i d) a fits = no_reply (event.write (Change i d)) (event_size (Change i d) fits.0)
parts_size (Remove i) a fits = no_reply (event.write (Remove i)) (event_size (Remove i) fits.0)
parts_size (Report f u occ) a fits = no_reply (event.write (Report f u occ)) (event_size (Report f u occ) fits.0)
parts_size MakeMap Taken fits = absurd fits.1
parts_size MakeMap (Map m) fits = omega (arith, made_size m fits.1)
parts_size (Fail c) a fits = no_reply (event.write (Fail c)) (event_size (Fail c) fits.0)
parts_size Restore a fits = no_reply (event.write Restore) (event_size Restore fits.0)

entry_size : (e : Entry) → entry.Fits e → length (entry.write e) ≤ 5171
entry_size e fits = parts_size e.event e.reply fits.0

entries_size : (es : List Entry) → AllByRecursion entry.Fits es → length (flat_map entry.write es) ≤ 5171 * length es
entries_size [] h = omega arith
entries_size (e ∷ es) h =
    let joined : length (flat_map entry.write (e ∷ es)) ≡ length (entry.write e ++ flat_map entry.write es) = ap (λ (bs : List ℕ). length bs) (flat_map-cons entry.write e es) in
    omega (arith, joined, length-append (entry.write e) (flat_map entry.write es), entry_size e h.0, entries_size es h.1)

-- the number of bytes of an opening

row_size : (v : Version) (r : Rule) (x : RawRow) → length ((row_in v r).write x) ≤ 39
row_size version.One r x = omega arith
row_size version.Two r x = omega arith

raw_rows_size : (v : Version) (r : Rule) (rows : List RawRow) → length (flat_map (row_in v r).write rows) ≤ 39 * length rows
raw_rows_size v r [] = omega arith
raw_rows_size v r (x ∷ rows) =
    let joined : length (flat_map (row_in v r).write (x ∷ rows)) ≡ length ((row_in v r).write x ++ flat_map (row_in v r).write rows) = ap (λ (bs : List ℕ). length bs) (flat_map-cons (row_in v r).write x rows) in
    omega (arith, joined, length-append ((row_in v r).write x) (flat_map (row_in v r).write rows), row_size v r x, raw_rows_size v r rows)

grants_size : (gs : List Granted) → length (flat_map grant.write gs) ≡ 6 * length gs
grants_size [] = refl
grants_size (g ∷ gs) = ap (λ (bs : List ℕ). length bs) (flat_map-cons grant.write g gs) ∙ omega (arith, grants_size gs)

onus_size : (us : List ℕ) → length (flat_map onu_id.write us) ≡ 2 * length us
onus_size [] = refl
onus_size (u ∷ us) = ap (λ (bs : List ℕ). length bs) (flat_map-cons onu_id.write u us) ∙ omega (arith, onus_size us)

pub few_allocs : (r : Rule) → max_allocs r ≤ MAX_STRUCTURES
few_allocs rule.DropRemainders = omega arith
few_allocs rule.CarryRemainders = omega arith

map_size : (r : Rule) (m : WindowMap) → (window_map_under r).Fits m → length ((window_map_under r).write m) ≤ 3593
map_size r m fits =
    let grants : List ℕ = flat_map grant.write m.grants in
    let few : length m.grants ≤ max_allocs r = fits.0.1.0.1 in
    let reported : length m.reported ≤ 255 = fits.0.1.1.1 in
    omega (arith, length-append grants (to_be_bytes w8 (length m.reported) ++ flat_map onu_id.write m.reported), grants_size m.grants, onus_size m.reported, few, few_allocs r, reported)

maps_size : (r : Rule) (ms : List WindowMap) → AllByRecursion (window_map_under r).Fits ms → length (flat_map (window_map_under r).write ms) ≤ 3593 * length ms
maps_size r [] h = omega arith
maps_size r (m ∷ ms) h =
    let joined : length (flat_map (window_map_under r).write (m ∷ ms)) ≡ length ((window_map_under r).write m ++ flat_map (window_map_under r).write ms) = ap (λ (bs : List ℕ). length bs) (flat_map-cons (window_map_under r).write m ms) in
    omega (arith, joined, length-append ((window_map_under r).write m) (flat_map (window_map_under r).write ms), map_size r m h.0, maps_size r ms h.1)

opening_size : (v : Version) (r : Rule) (o : Opening) → (opening_in v r).Fits o → length ((opening_in v r).write o) ≤ 260000
opening_size v r o fits =
    let rows : List ℕ = flat_map (row_in v r).write o.rows in
    let few : length o.rows ≤ max_allocs r = fits.0.1.1.1.1.1.0.1 in
    let maps : length o.window ≤ MAX_MAPS = fits.0.1.1.1.1.1.1.1 in
    omega (
      arith,
      length-append rows (to_be_bytes w8 (length o.window) ++ flat_map (window_map_under r).write o.window),
      raw_rows_size v r o.rows,
      maps_size r o.window fits.0.1.1.1.1.1.1.2,
      few,
      few_allocs r,
      maps,
    )

-- ---- bodies

rule_size : (v : Version) (r : Rule) → length ((rule_in v).write r) ≤ 1
rule_size version.One r = omega arith
rule_size version.Two r = omega arith

pub body_fits_length : (v : Version) (b : Body) → (body_in v).Fits b → length ((body_in v).write b) < 2 ^ 32
body_fits_length v b fits =
    let r : Rule = b.opening.rule in
    let es : List ℕ = (counted (number w32) MAX_ENTRIES entry).write b.entries in
    let few : length b.entries ≤ MAX_ENTRIES = fits.0.1.1.1.1.1 in
    omega (
      arith,
      length-append ((rule_in v).write r) (port.write b.port ++ to_be_bytes w64 b.number ++ (opening_in v r).write b.opening ++ es),
      length-append ((opening_in v r).write b.opening) es,
      rule_size v r,
      opening_size v r b.opening fits.0.1.1.1.0,
      entries_size b.entries fits.0.1.1.1.1.2,
      few,
    )
