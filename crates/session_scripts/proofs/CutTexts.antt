-- Texts that are cut to a room.
use Rattle.std.proofs.Common.{◌≡◌, ℕ, ◌+◌, ◌-◌, ◌≤◌, min, zero, suc, List, [], ◌∷◌, ◌++◌, length, take, drop, refl, ap, append_assoc, ◌∙◌, arith}
use Rattle.std.proofs.lemmas.List.{take_min, take_at, length-take, length-append, length-drop}
use Rattle.std.proofs.Math.Seq.{take-append-add}
use Rattle.std.proofs.lemmas.Slice.{take-put_mid}
use borrow.Rule.Slice.PartMut.{put_mid}

take_front : (n : ℕ) (xs ys : List ℕ) → take n (take n xs ++ ys) ≡ take n (xs ++ ys)
take_front zero xs ys = refl
take_front (suc n) [] ys = refl
take_front (suc n) (x ∷ xs) ys = ap (λ r. x ∷ r) (take_front n xs ys)

-- a byte, and then a text, each cut to the room
pub dotted : (n : ℕ) (text : List ℕ) (dot : ℕ) (name : List ℕ) → take n (take n (text ++ dot ∷ []) ++ name)
    ≡ take n (text ++ dot ∷ name)
dotted n text dot name = take_front n (text ++ dot ∷ []) name ∙ ap (take n) (append_assoc text (dot ∷ []) name)

-- two texts in a row, written to a room one after the other
pub written : (room front rest first part : List ℕ) (m : ℕ) → length front ≤ length room →
    m ≡ min (length rest) (length (first ++ drop (length front) room) - length front) → first ≡ front → part ≡ take m rest
    → take (length front + m) (put_mid (length front) (length front + m - length front) (first ++ drop (length front) room)
    part) ≡ take (length room) (front ++ rest)
written room front rest first part m fits least was cut =
    let whole : length (first ++ drop (length front) room) ≡ length room =
    omega (arith, length-append first (drop (length front) room), length-drop (length front) room, ap length was) in
    let fewest : m ≡ min (length room - length front) (length rest) = omega (arith, least, whole) in
    let long : length part ≡ m = omega (arith, ap length cut, length-take m rest, fewest) in
    let apart : take (length front + m) (put_mid (length front) (length front + m - length front)
    (first ++ drop (length front) room) part) ≡ take (length front) (first ++ drop (length front) room) ++ part =
    take-put_mid (length front) (length front + m - length front) (first ++ drop (length front) room) part (length front + m)
    (omega arith) (omega arith) in
    let before : take (length front) (first ++ drop (length front) room) ≡ front =
    take_at first (drop (length front) room) (length front) (ap length was) ∙ was in
    let after : part ≡ take (length room - length front) rest = cut ∙ ap (λ k. take k rest) fewest
    ∙ take_min (length room - length front) rest in
    let room_is : length room ≡ length front + (length room - length front) = omega arith in
    let cut_is : take (length room) (front ++ rest) ≡ front ++ take (length room - length front) rest =
    ap (λ k. take k (front ++ rest)) room_is ∙ take-append-add front rest (length room - length front) in
    cc
