-- Numbers of a fixed width in bytes: what is read has the bytes that were read, and bytes are read again.
use Rattle.std.proofs.Common.{◌≡◌, ℕ, ◌^◌, ◌≤◌, ◌<◌, false, ltb, List, ◌++◌, length, take, drop, Some, refl, sym, ap, subst, ◌∙◌, append_assoc, arith}
use Rattle.std.specs.Int.{Width, w16, w32, w64, byte_len, to_be_bytes, from_be_bytes}
use Rattle.std.proofs.lemmas.Bool.{ltb-false, le-ltb}
use Rattle.std.proofs.lemmas.List.{length-take, length-append, take-append-drop, take_at, drop_at}
use Rattle.std.proofs.lemmas.Nat.{be_bytes_2, be_bytes_4, be_bytes_8, from_be_bytes-to_be_bytes_2, from_be_bytes-to_be_bytes_4, from_be_bytes-to_be_bytes_8}
use Rattle.pq_key_code.specs.KeyCode.{IsBytes}
use Rattle.pq_key_code.proofs.Reading.{IsBytes_at, IsBytes-take, IsBytes-drop, guarded, Takes}
use Rattle.pq_row_code.specs.RowReading.{bits_at}

-- one part and then another
pub Takes-then : (a x b y c : List ℕ) → Takes a x b → Takes b y c → Takes a (x ++ y) c
Takes-then a x b y c p q = record { parts = p.parts ∙ ap (λ (t : List ℕ). x ++ t) q.parts ∙ sym (append_assoc x y c); rest_fits = q.rest_fits }

-- ---- numbers

-- what a width keeps: numbers below the limit, both ways
pub record IsWide (w : Width) (limit : ℕ) : Type 0 where
  pub len : (n : ℕ) → length (to_be_bytes w n) ≡ byte_len w
  pub back : (bytes : List ℕ) → length bytes ≡ byte_len w → IsBytes bytes → to_be_bytes w (from_be_bytes w bytes) ≡ bytes
  pub again : (n : ℕ) → n < limit → from_be_bytes w (to_be_bytes w n) ≡ n
  pub below : (bytes : List ℕ) → IsBytes bytes → from_be_bytes w bytes < limit

pub wide16 : IsWide w16 (2 ^ 16)
wide16 = record {
  len = λ n. refl;
  back = λ bytes len fits. be_bytes_2 bytes _ len (IsBytes_at bytes fits) refl;
  again = λ n lt. from_be_bytes-to_be_bytes_2 n lt;
  below = λ bytes fits. omega (arith, IsBytes_at bytes fits 0, IsBytes_at bytes fits 1);
}

pub wide32 : IsWide w32 (2 ^ 32)
wide32 = record {
  len = λ n. refl;
  back = λ bytes len fits. be_bytes_4 bytes _ len (IsBytes_at bytes fits) refl;
  again = λ n lt. from_be_bytes-to_be_bytes_4 n lt;
  below = λ bytes f. omega (arith, IsBytes_at bytes f 0, IsBytes_at bytes f 1, IsBytes_at bytes f 2, IsBytes_at bytes f 3);
}

pub wide64 : IsWide w64 (2 ^ 64)
wide64 = record {
  len = λ n. refl;
  back = λ bytes len fits. be_bytes_8 bytes _ len (IsBytes_at bytes fits) refl;
  again = λ n lt. from_be_bytes-to_be_bytes_8 n lt;
  below = λ bytes f. omega (arith, IsBytes_at bytes f 0, IsBytes_at bytes f 1, IsBytes_at bytes f 2, IsBytes_at bytes f 3, IsBytes_at bytes f 4, IsBytes_at bytes f 5, IsBytes_at bytes f 6, IsBytes_at bytes f 7);
}

pub bits_takes : (w : Width) (limit : ℕ) (wide : IsWide w limit) (bs : List ℕ) (n : ℕ) (rest : List ℕ) → IsBytes bs → bits_at w bs ≡ Some (n, rest) → Takes bs (to_be_bytes w n) rest × (n < limit)
bits_takes w limit wide bs n rest f e =
    let g = guarded (ltb (length bs) (byte_len w)) (from_be_bytes w (take (byte_len w) bs), drop (byte_len w) bs) (n, rest) e in
    let long : byte_len w ≤ length bs = ltb-false _ _ g.0 in
    let front : to_be_bytes w (from_be_bytes w (take (byte_len w) bs)) ≡ take (byte_len w) bs = wide.back (take (byte_len w) bs) (omega (arith, length-take (byte_len w) bs)) (IsBytes-take (byte_len w) bs f) in
    let at : Takes bs (to_be_bytes w (from_be_bytes w (take (byte_len w) bs))) (drop (byte_len w) bs) × (from_be_bytes w (take (byte_len w) bs) < limit) =
    (record { parts = sym (ap (λ (p : List ℕ). p ++ drop (byte_len w) bs) front ∙ take-append-drop (byte_len w) bs); rest_fits = IsBytes-drop (byte_len w) bs f }, wide.below (take (byte_len w) bs) (IsBytes-take (byte_len w) bs f)) in
    subst (λ (x : ℕ × List ℕ). Takes bs (to_be_bytes w x.0) x.1 × (x.0 < limit)) g.1 at

pub bits_again : (w : Width) (limit : ℕ) (wide : IsWide w limit) (n : ℕ) (rest : List ℕ) → n < limit → bits_at w (to_be_bytes w n ++ rest) ≡ Some (n, rest)
bits_again w limit wide n rest lt =
    let len = wide.len n in
    let long : ltb (length (to_be_bytes w n ++ rest)) (byte_len w) ≡ false = le-ltb _ _ (omega (arith, length-append (to_be_bytes w n) rest)) in
    rw (long, take_at (to_be_bytes w n) rest (byte_len w) len, drop_at (to_be_bytes w n) rest (byte_len w) len, wide.again n lt) refl
