-- Bytes that are known, or not.
use Rattle.std.proofs.Common.{◌≡◌, ℕ, ◌+◌, ◌-◌, ◌≤◌, ◌<◌, arith, List, [], ◌++◌, take, drop, length, Option, Some, None, refl, sym, ap, ◌∙◌, append_assoc, append-nil, length-append}
use Rattle.std.proofs.lemmas.List.{take_rest, take-append-le, take_at, take-append-drop, length-take-le, length-drop, drop-drop}
use Rattle.std.proofs.Math.Seq.{take-add}
use Rattle.std.specs.Io.KnownBytes.{append_known, prepend_known}

pub append_known-append : (known : Option (List ℕ)) (xs ys : List ℕ) → append_known (append_known known xs) ys ≡ append_known known (xs ++ ys)
append_known-append None xs ys = refl
append_known-append (Some bs) xs ys = ap Some (append_assoc bs xs ys)

pub append_known-none : (known : Option (List ℕ)) → append_known known [] ≡ known
append_known-none None = refl
append_known-none (Some bs) = ap Some (append-nil bs)

pub prepend_known-append : (xs ys : List ℕ) (known : Option (List ℕ)) → prepend_known (xs ++ ys) known ≡ prepend_known xs (prepend_known ys known)
prepend_known-append xs ys None = refl
prepend_known-append xs ys (Some bs) = ap Some (append_assoc xs ys bs)

pub take_two : (xs : List ℕ) (i n : ℕ) → take i xs ++ take n (take (length xs - i) (drop i xs)) ≡ take (i + n) xs
take_two xs i n = ap (λ ys. take i xs ++ take n ys) (take_rest xs i) ∙ sym (take-add i n xs)

-- a part was copied to the front of the room
pub given_front : (bs room copied : List ℕ) (at n : ℕ) → at + n ≤ length bs → copied ≡ take (at + n - at) (drop at bs) → drop at bs ≡ take n (copied ++ drop n room) ++ drop (at + n) bs
given_front bs room copied at n within is =
    let same : copied ≡ take n (drop at bs) = is ∙ ap (λ k. take k (drop at bs)) (omega arith) in
    let long : length copied ≡ n = ap length same ∙ length-take-le n (drop at bs) (omega (arith, length-drop at bs)) in
    sym (ap (λ xs. xs ++ drop (at + n) bs) (take_at copied (drop n room) n long ∙ same) ∙ ap (λ xs. take n (drop at bs) ++ xs) (sym (drop-drop n at bs)) ∙ take-append-drop n (drop at bs))

-- what is known to begin so is as long
pub known-length : (now : Option (List ℕ)) (xs all : List ℕ) → Some all ≡ prepend_known xs now → length xs ≤ length all
known-length None xs all e = cc
known-length (Some ys) xs all e = let same : all ≡ xs ++ ys = cc in omega (arith, ap length same, length-append xs ys)

pub length_part : (n : ℕ) (xs : List ℕ) → 0 < n → n ≤ length xs → 0 < length (take n xs)
length_part n xs some within = omega (arith, length-take-le n xs within)

pub prepend_known-none : (known : Option (List ℕ)) → prepend_known [] known ≡ known
prepend_known-none None = refl
prepend_known-none (Some bs) = refl

-- the front of a room whose first bytes were written
pub room_front : (n : ℕ) (written rest : List ℕ) → n ≤ length written → take n (written ++ rest) ≡ take n written
room_front n written rest within = take-append-le n written rest within

pub room_long : (n : ℕ) (written rest : List ℕ) → n ≤ length written → length (take n (written ++ rest)) ≡ n
room_long n written rest within = ap length (room_front n written rest within) ∙ length-take-le n written within
