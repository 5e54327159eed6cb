-- Posts one after another.
use Rattle.std.proofs.Common.{◌≡◌, ℕ, ◌+◌, ◌<◌, ◌≤◌, List, Option, inl, inr, length, refl, sym, ap, subst, ◌∙◌, arith}
use Rattle.std.specs.Prelude.{slice_index, slice_set}
use Rattle.std.proofs.lemmas.List.{get_or-set_same, get_or-set_other, length-set}
use Rattle.pon_desk.specs.Counts.{SeatState, one_more_at}
use Rattle.pon_worker.specs.Turns.{IsPostAt, KeepsPost, PostsAt, PostsEnd, RaisedAt, most_others}
use Rattle.pon_worker.specs.declared.counts.PortCounts.{PortCounts}
use Rattle.pon_worker.specs.declared.counts.StopReason.{StopReason}
use Rattle.pon_worker.specs.declared.counts.StopReason.TheVariants.{Finished, Gave, GateLimit, Refused}
use Rattle.pon_admit.specs.declared.event.Event.{Event}
use Rattle.pon_lists.specs.Kept.{AddsTo}
use Rattle.pon_desk.specs.Receipts.{Receipt}

pub raised_one : (port : ℕ) (s t : SeatState) → t ≡ one_more_at port s → port < length s.counts → RaisedAt port 1 s t
raised_one port s t same inside =
    let counts : t.counts ≡ slice_set s.counts port (slice_index s.counts port + 1) = ap (λ (u : SeatState). u.counts) same in record {
      size = ap (λ (xs : List ℕ). length xs) counts ∙ length-set s.counts port (slice_index s.counts port + 1);
      here = ap (λ (xs : List ℕ). slice_index xs port) counts ∙ get_or-set_same s.counts port (slice_index s.counts port + 1) 0 inside;
      others = λ p other. ap (λ (xs : List ℕ). slice_index xs p) counts ∙ get_or-set_other s.counts port p (slice_index s.counts port + 1) 0 other;
    }

pub raised_more : (port n m : ℕ) (a b c : SeatState) → RaisedAt port n a b → RaisedAt port m b c → RaisedAt port (n + m) a c
raised_more port n m a b c p q = record {
  size = q.size ∙ p.size;
  here = omega (arith, p.here, q.here);
  others = λ k other. q.others k other ∙ p.others k other;
}

pub raised_none : (port : ℕ) (s : SeatState) → RaisedAt port 0 s s
raised_none port s = record {
  size = refl;
  here = omega arith;
  others = λ k other. refl;
}

-- the same counts, whatever receipts are kept
pub raised_kept : (port n : ℕ) (a b c : SeatState) → RaisedAt port n a b → c.counts ≡ b.counts → RaisedAt port n a c
raised_kept port n a b c p same = record {
  size = ap (λ (xs : List ℕ). length xs) same ∙ p.size;
  here = ap (λ (xs : List ℕ). slice_index xs port) same ∙ p.here;
  others = λ k other. ap (λ (xs : List ℕ). slice_index xs k) same ∙ p.others k other;
}

-- the posts of one part, followed by those of another
pub posts_more : (port x y : ℕ) (a b c : SeatState) (old mid new : PortCounts) → PostsAt port x a b old mid → PostsAt port y b c mid new → PostsAt port (x + y) a c old new
posts_more port x y a b c old mid new p q = record {
  posts = p.posts + q.posts;
  raised = raised_more port p.posts q.posts a b c p.raised q.raised;
  are = omega (arith, p.are, q.are);
}

-- no post, and no map or report counted
pub posts_none : (port : ℕ) (s : SeatState) (old new : PortCounts) → new.maps ≡ old.maps → new.reports ≡ old.reports → PostsAt port 0 s s old new
posts_none port s old new maps reports = record {
  posts = 0;
  raised = raised_none port s;
  are = omega (arith, maps, reports);
}

-- one post, which is counted as one more map or report, or as another post
pub posts_one : (port others : ℕ) (a b : SeatState) (old new : PortCounts) → RaisedAt port 1 a b → new.maps + new.reports + others ≡ old.maps + old.reports + 1 → PostsAt port others a b old new
posts_one port others a b old new raised counted = record {
  posts = 1;
  raised = raised;
  are = omega (arith, counted);
}

-- the seat counts at least as many posts as maps and reports are counted
pub posts_fit : (port : ℕ) (a b : SeatState) (old new : PortCounts) → PostsAt port 0 a b old new → old.maps + old.reports ≤ slice_index a.counts port → new.maps + new.reports ≤ slice_index b.counts port
posts_fit port a b old new p fits = omega (arith, p.are, p.raised.here, fits)

-- a post that the port took, counted as a report
pub posts_taken : (port : ℕ) (a b : SeatState) (old new : PortCounts) → RaisedAt port 1 a b → new.maps ≡ old.maps → new.reports ≡ old.reports + 1 → PostsAt port 0 a b old new
posts_taken port a b old new raised maps reports = posts_one port 0 a b old new raised (omega (arith, maps, reports))

pub posts_refused : (port : ℕ) (a b : SeatState) (old new : PortCounts) → b ≡ a → new.maps ≡ old.maps → new.reports ≡ old.reports → PostsAt port 0 a b old new
posts_refused port a b old new same maps reports = subst (λ (s : SeatState). PostsAt port 0 a s old new) (sym same) (posts_none port a old new maps reports)

-- one more map counted
abbrev pub with_map : PortCounts → PortCounts
with_map a = record { maps = a.maps + 1; reports = a.reports; garbled = a.garbled; unowned = a.unowned; refused = a.refused }

-- the post of a map, followed by those of its reports
pub posts_made : (port : ℕ) (a b c : SeatState) (old new : PortCounts) → RaisedAt port 1 a b → PostsAt port 0 b c (with_map old) new → PostsAt port 0 a c old new
posts_made port a b c old new raised p = record {
  posts = 1 + p.posts;
  raised = raised_more port 1 p.posts a b c raised p.raised;
  are = omega (arith, p.are);
}

-- posts, followed by others that are not counted
pub posts_beside : (port others : ℕ) (a b c : SeatState) (old new : PortCounts) → PostsAt port 0 a b old new → RaisedAt port others b c → PostsAt port others a c old new
posts_beside port others a b c old new p raised = record {
  posts = p.posts + others;
  raised = raised_more port p.posts others a b c p.raised raised;
  are = omega (arith, p.are);
}

-- posts, followed by that of the failure of the port, if there is one
pub posts_end : (port : ℕ) (why : StopReason) (a b c : SeatState) (old new : PortCounts) → PostsAt port 0 a b old new → PostsEnd port why b c → (others : ℕ) × (others ≤ most_others why) × PostsAt port others a c old new
posts_end port (Gave cause) a b c old new p (inl k) = (1, omega arith, posts_beside port 1 a b c old new p k.raised)
posts_end port (Gave cause) a b c old new p (inr e) = (0, omega arith, subst (λ (s : SeatState). PostsAt port 0 a s old new) (sym e) p)
posts_end port Finished a b c old new p e = (0, omega arith, subst (λ (s : SeatState). PostsAt port 0 a s old new) (sym e) p)
posts_end port GateLimit a b c old new p e = (0, omega arith, subst (λ (s : SeatState). PostsAt port 0 a s old new) (sym e) p)
posts_end port (Refused fault) a b c old new p e = (0, omega arith, subst (λ (s : SeatState). PostsAt port 0 a s old new) (sym e) p)

-- a post that was accepted, and whose receipt the seat was given
pub keeps_post : (port : ℕ) (event : Event) (a b c : SeatState) (receipt : Receipt) → IsPostAt port event receipt → RaisedAt port 1 a b → b.receipts ≡ a.receipts → c.counts ≡ b.counts → AddsTo b.receipts receipt c.receipts → KeepsPost port event a c
keeps_post port event a b c receipt is raised same counts kept = record {
  receipt = receipt;
  is_post = is;
  raised = raised_kept port 1 a b c raised counts;
  kept = subst (λ (o : Option (List Receipt)). AddsTo o receipt c.receipts) same kept;
}
