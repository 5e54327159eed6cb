-- The bytes that a writer of downstream records holds, and those that remain.
use Rattle.std.proofs.Common.{◌≡◌, ℕ, ◌+◌, ◌-◌, ◌<◌, ◌≤◌, ◌==◌, true, false, List, [], ◌∷◌, ◌++◌, length, take, drop, set, Option, Some, None, refl, ap, sym, ◌∙◌, append_assoc, length-append, length-set, arith}
use Rattle.std.proofs.lemmas.Grind.{take-set_at}
use Rattle.std.proofs.lemmas.List.{append-nil, drop-take, drop-drop, length-take, take-append-drop, take_at}
use Rattle.std.proofs.lemmas.Slice.{take-put_mid}
use Rattle.std.proofs.Math.Seq.{take-append-add}
use Rattle.pon_device.specs.Device.{Appends, Keeps}
use borrow.Rule.Slice.PartMut.{put_mid, post_of}

-- the part of a buffer that remains after more of it is written
pub left_after : (bytes : List ℕ) (begin end n : ℕ) → n ≤ length (take (end - begin) (drop begin bytes)) → take (end - (begin + n)) (drop (begin + n) bytes) ≡ drop n (take (end - begin) (drop begin bytes))
left_after bytes begin end n le =
    let rest : end - begin ≡ n + (end - (begin + n)) = omega (arith, le, length-take (end - begin) (drop begin bytes)) in
    sym (ap (λ (k : ℕ). drop n (take k (drop begin bytes))) rest ∙ drop-take n (end - (begin + n)) (drop begin bytes) ∙ ap (λ (t : List ℕ). take (end - (begin + n)) t) (drop-drop n begin bytes))

-- a buffer to whose front a tag, a frame and a map's bytes were written has them as a prefix
pub record_spelled : (room frame map_part map rest : List ℕ) (tag n k : ℕ) → 0 < length room → length frame ≡ 8 → length map ≡ n → map_part ≡ map ++ rest → take (9 + n) (put_mid 9 k (put_mid 1 8 (set room 0 tag) frame) map_part) ≡ tag ∷ (frame ++ map)
record_spelled room frame map_part map rest tag n k some eight size is =
    let tagged = set room 0 tag in
    let fronted = put_mid 1 8 tagged frame in
    let after = post_of 9 k fronted in
    let first : take 1 tagged ≡ tag ∷ [] = take-set_at room 0 1 tag (omega arith) some in
    let long : 1 ≤ length tagged = omega (arith, some, length-set room 0 tag) in
    let front : take 9 fronted ≡ tag ∷ frame = take-put_mid 1 8 tagged frame 9 (omega (arith, eight)) long ∙ ap (λ (t : List ℕ). t ++ frame) first in
    let nine : length (take 9 fronted) ≡ 9 = ap (λ (t : List ℕ). length t) front ∙ omega (arith, eight) in
    let body : take n (map_part ++ after) ≡ map = ap (λ (t : List ℕ). take n (t ++ after)) is ∙ ap (λ (t : List ℕ). take n t) (append_assoc map rest after) ∙ take_at map (rest ++ after) n size in
    ap (λ (m : ℕ). take (m + n) (take 9 fronted ++ (map_part ++ after))) (sym nine)
    ∙ take-append-add (take 9 fronted) (map_part ++ after) n
    ∙ ap (λ (t : List ℕ). take 9 fronted ++ t) body
    ∙ ap (λ (t : List ℕ). t ++ map) front

all_sent : (sent left all : List ℕ) (n : ℕ) → sent ++ left ≡ all → (sent ++ take n left) ++ drop n left ≡ all
all_sent sent left all n e = append_assoc sent (take n left) (drop n left) ∙ ap (λ (t : List ℕ). sent ++ t) (take-append-drop n left) ∙ e

-- the written bytes, followed by the remaining ones, are all bytes
pub record Sends (old new : Option (List ℕ)) (all left : List ℕ) : Type 0 where
  pub sent : List ℕ
  pub appends : Appends old new sent
  pub together : sent ++ left ≡ all

pub none_sent : (old : Option (List ℕ)) (all : List ℕ) → Sends old old all all
none_sent None all = record { sent = []; appends = tt; together = refl }
none_sent (Some o) all = record { sent = []; appends = sym (append-nil o); together = refl }

-- one more piece is written
pub sent_more : (old mid new : Option (List ℕ)) (all left : List ℕ) (n : ℕ) → Sends old mid all left → Appends mid new (take n left) → Sends old new all (drop n left)
sent_more None mid new all left n s a = record { sent = s.sent ++ take n left; appends = tt; together = all_sent s.sent left all n s.together }
sent_more (Some o) None new all left n s a = absurd s.appends
sent_more (Some o) (Some m) None all left n s a = absurd a
sent_more (Some o) (Some m) (Some w) all left n s a = record {
  sent = s.sent ++ take n left;
  appends = a ∙ ap (λ (t : List ℕ). t ++ take n left) s.appends ∙ append_assoc o s.sent (take n left);
  together = all_sent s.sent left all n s.together;
}

-- nothing more is written
pub sent_kept : (old mid new : Option (List ℕ)) (all left : List ℕ) → Sends old mid all left → Keeps mid new → Sends old new all left
sent_kept None mid new all left s k = record { sent = s.sent; appends = tt; together = s.together }
sent_kept (Some o) None new all left s k = absurd s.appends
sent_kept (Some o) (Some m) None all left s k = absurd k
sent_kept (Some o) (Some m) (Some w) all left s k = record { sent = s.sent; appends = k ∙ s.appends; together = s.together }

-- if bytes remain, there were bytes at first
pub not_idle : (old new : Option (List ℕ)) (all left shown : List ℕ) → Sends old new all left → shown ≡ left → false ≡ (length shown == 0) → all ≡ [] → ⊥
not_idle old new all left shown s is some none =
    let both : length s.sent + length left ≡ 0 = sym (length-append s.sent left) ∙ ap (λ (t : List ℕ). length t) (s.together ∙ none) in
    let empty : length shown ≡ 0 = ap (λ (t : List ℕ). length t) is ∙ omega (arith, both) in
    let no : false ≡ true = some ∙ ap (λ (n : ℕ). n == 0) empty in
    cc
