-- The invariant of a window after each call.
use Rattle.std.proofs.Common.{◌≡◌, ◌∙◌, ℕ, ◌+◌, ◌-◌, ◌<◌, ◌≤◌, ◌||◌, ◌&&◌, List, [], ◌∷◌, ◌++◌, ap, drop, map, length, refl, sym, arith}
use Rattle.std.specs.Prelude.{◌==◌, filter, All}
use Rattle.std.specs.List.{list_any}
use Rattle.std.proofs.lemmas.List.{drop-append-le, drop-drop, length-map, length-drop, length_push}
use Rattle.std.proofs.lemmas.List.Elements.{All-nil, All-cons, All-append, All-drop, All-map, All-weaker, All-push}
use Rattle.pon_guar.specs.declared.window.TheConstants.{MAX_MAPS}
use Rattle.pon_units.specs.Granted.{AreInMapOrder}
use Rattle.pon_units.specs.declared.granted.Granted.{Granted}
use Rattle.pon_guar.specs.Window.{IsLawfulMap, IsWindow, AreConsecutive, WindowMap, frame_after, last_64, latest_grants, onus_polled, with_map}
use Rattle.pon_guar.specs.ReportChecks.{with_report}
use Rattle.pon_guar.proofs.Frames.{leads_after, leads_drop, leads_mapped, leads_push}
use Rattle.pon_guar.proofs.Polls.{said_lawful}

pub no_maps : IsWindow []
no_maps = record { few_maps = omega arith; frames = tt; maps = All-nil IsLawfulMap }

module _ (window : List WindowMap) (k : IsWindow window) where
  pub one_more : (frame : ℕ) (gs : List Granted) → AreConsecutive frame window → AreInMapOrder gs → IsWindow (with_map frame gs window)
  one_more frame gs next order =
      let new : WindowMap = record { frame = frame; grants = gs; reported = [] } in
      let all : List WindowMap = window ++ new ∷ [] in
      record {
        few_maps = omega (arith, length-drop (length all - 64) all);
        frames = leads_after (frame + 1) (last_64 all) (leads_drop (frame + 1) (length all - 64) all (leads_push frame window new next refl));
        maps = All-drop IsLawfulMap (length all - 64) all (All-append IsLawfulMap window (new ∷ []) k.maps (All-cons IsLawfulMap new [] (record { rising = order; reported = sym (nobody (onus_polled new)) }) (All-nil IsLawfulMap)));
      }
    where
      nobody : (xs : List ℕ) → filter (λ u. list_any (λ v. v == u) []) xs ≡ []
      nobody [] = refl
      nobody (x ∷ xs) = nobody xs

  pub one_restored : (new : WindowMap) → length window < MAX_MAPS → AreConsecutive new.frame window → IsLawfulMap new → IsWindow (window ++ new ∷ [])
  one_restored new room next lawful = record {
    few_maps = omega (arith, length_push window new, room);
    frames = leads_after (new.frame + 1) (window ++ new ∷ []) (leads_push new.frame window new next refl);
    maps = All-append IsLawfulMap window (new ∷ []) k.maps (All-cons IsLawfulMap new [] lawful (All-nil IsLawfulMap));
  }

  pub one_reported : (f u : ℕ) → IsWindow (map (with_report f u) window)
  one_reported f u = record {
    few_maps = omega (arith, k.few_maps, length-map window (with_report f u));
    frames = leads_after (frame_after window) (map (with_report f u) window) (leads_mapped (with_report f u) (λ m. refl) (frame_after window) window k.frames);
    maps = All-map IsLawfulMap (with_report f u) window (All-weaker IsLawfulMap (λ m. IsLawfulMap (with_report f u m))
        (λ m l. said_lawful (λ v. list_any (λ w. w == v) m.reported || (f == m.frame && u == v)) m l.rising) window k.maps);
  }

-- the elements from an index on, after one more is kept: the last 64 of those that were there before and the new one
pub one_more_kept : {T : Type 0} (past len : ℕ) (xs : List T) (x : T) → past ≤ length xs → len ≡ length (drop past xs) → drop (past + (len + 1 - 64)) (xs ++ x ∷ []) ≡ last_64 (drop past xs ++ x ∷ [])
one_more_kept past len xs x within is =
    sym (drop-drop (len + 1 - 64) past (xs ++ x ∷ []))
    ∙ ap (drop (len + 1 - 64)) (drop-append-le past xs (x ∷ []) within)
    ∙ ap (λ n. drop (n - 64) (drop past xs ++ x ∷ [])) (ap (λ n. n + 1) is ∙ sym (length_push (drop past xs) x))

-- the last map
pub latest_of : (ms : List WindowMap) (m : WindowMap) → latest_grants (ms ++ m ∷ []) ≡ m.grants
latest_of [] m = refl
latest_of (a ∷ []) m = refl
latest_of (a ∷ b ∷ ms) m = latest_of (b ∷ ms) m

pub latest_added : (frame : ℕ) (gs : List Granted) (window : List WindowMap) → length window ≤ MAX_MAPS → latest_grants (with_map frame gs window) ≡ gs
latest_added frame gs window few =
    let new : WindowMap = record { frame = frame; grants = gs; reported = [] } in
    let past : ℕ = length (window ++ new ∷ []) - 64 in
    ap latest_grants (drop-append-le past window (new ∷ []) (omega (arith, length_push window new))) ∙ latest_of (drop past window) new

-- what holds of all maps of a window and of a new one
pub All-with_map : (P : WindowMap → Type 0) (frame : ℕ) (gs : List Granted) (window : List WindowMap) → All P window → P (record { frame = frame; grants = gs; reported = [] }) → All P (with_map frame gs window)
All-with_map P frame gs window h here =
    let new : WindowMap = record { frame = frame; grants = gs; reported = [] } in
    All-drop P (length (window ++ new ∷ []) - 64) (window ++ new ∷ []) (All-push P window new h here)
