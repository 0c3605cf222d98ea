-- A text is read as the position whose cursor it is.
use Rattle.std.proofs.Common.{inl, inr, ◌≡◌, ℕ, ◌/◌, List, [], ◌∷◌, ◌++◌, length, take, drop, Some, None, Result, Ok, Err, refl, sym, ap, subst, ◌∙◌, arith, take-append-drop, mod-lt}
use Rattle.std.specs.Prelude.{Bool, true, Option, IfOk, IfSome, IfNone, if◌then◌else◌}
use Rattle.std.specs.Option.{option_and_then}
use Rattle.std.specs.Result.{result_ok}
use Rattle.std.specs.Str.{bytes_eq}
use Rattle.std.proofs.lemmas.Option.{none-some, same_Some}
use Rattle.base64.specs.Engines.{url_safe_no_pad}
use Rattle.base64.specs.GeneralPurpose.{encode_of, decode_of, decoded_of}
use Rattle.base64.specs.declared.decode.DecodeError.{DecodeError}
use Rattle.base64.proofs.EngineFacts.{decode_of_strict, decode_of-encode_of}
use Rattle.pq_base.specs.Values.{AreValues, AllFit}
use Rattle.pq_base.specs.declared.value.ColType.{ColType}
use Rattle.pq_base.specs.declared.value.Dir.{Dir}
use Rattle.pq_base.specs.declared.value.Value.{Value}
use Rattle.pq_base.proofs.TypeFits.{value_from_fit}
use Rattle.pq_key_code.specs.KeyCode.{IsBytes, code_of}
use Rattle.pq_key_code.specs.KeyReading.{key_at}
use Rattle.pq_key_code.proofs.CodeBytes.{code_bytes}
use Rattle.pq_key_code.proofs.Reading.{IsBytes_at, IsBytes-drop, key_takes, key_again, chosen}
use Rattle.std.proofs.lemmas.Slice.Eq.{bytes_eq-Decides}
use Rattle.pq_cursor.specs.Cursors.{IsCursorOf, IsNoCursor, cursor_head, cursor_bytes, cursor_text, position_behind, position_in}

values_from_fits : (types : List ColType) (p : List Value) → AllFit types p → AreValues p
values_from_fits [] [] h = tt
values_from_fits [] (x ∷ p) h = absurd h
values_from_fits (t ∷ types) [] h = absurd h
values_from_fits (t ∷ types) (x ∷ p) h = (value_from_fit t x h.0, values_from_fits types p h.1)

-- the bytes of a text that decodes
decoded : (r : Result (List ℕ) DecodeError) (bytes : List ℕ) → r ≡ Ok bytes → result_ok r ≡ Some bytes
decoded r bytes is = ap result_ok is

module _ (number : ℕ) (types : List ColType) (dirs : List Dir) (long : length types ≡ length dirs) where
  -- bytes that hold a position are those of its cursor
  behind_is : (bytes : List ℕ) (p : List Value) → IsBytes bytes → position_behind number types dirs bytes ≡ Some p → AllFit types p × (cursor_bytes number dirs p ≡ bytes)
  behind_is bytes p fit is =
      elim (chosen (bytes_eq (take 3 bytes) (cursor_head number)) (key_at types dirs (drop 3 bytes)) None (Some p) is) [
        | inl h ↦
            let head : take 3 bytes ≡ cursor_head number = (bytes_eq-Decides (take 3 bytes) (cursor_head number)).0 h.0 in
            let read = key_takes types dirs (drop 3 bytes) p long (IsBytes-drop 3 bytes fit) h.1 in
            (read.0, ap (λ (front : List ℕ). front ++ code_of dirs p) (sym head) ∙ ap (λ (rest : List ℕ). take 3 bytes ++ rest) read.1 ∙ take-append-drop 3 bytes)
        | inr h ↦ absurd (none-some p h.1)
      ]

  -- what `decode_key` answers is what reading gives
  read_key : {E : Type 0} (code : List ℕ) → IsBytes code → (r : Result (Option (List Value)) E) → IfOk r (λ o. IfSome o (λ p. AllFit types p × (code_of dirs p ≡ code))) → IfOk r (λ o. IfNone o ((p : List Value) → AllFit types p → code_of dirs p ≡ code → ⊥)) → IfOk r (λ o. o ≡ key_at types dirs code)
  read_key code fit (Err e) found none = tt
  read_key code fit (Ok (Some p)) found none = sym (ap (key_at types dirs) (sym found.1) ∙ key_again types dirs p long found.0)
  read_key code fit (Ok None) found none =
      elim (key_at types dirs code) as (λ o. key_at types dirs code ≡ o → None ≡ o) [
        | None ↦ λ _. refl
        | Some p ↦ λ is. let read = key_takes types dirs code p long fit is in absurd (none p read.0 read.1)
      ] refl

  -- so behind the head it is the position
  pub read_behind : {E : Type 0} (bytes head code : List ℕ) → IsBytes bytes → bytes_eq (take 3 bytes) head ≡ true → head ≡ cursor_head number → code ≡ drop 3 bytes → (r : Result (Option (List Value)) E) → IfOk r (λ o. IfSome o (λ p. AllFit types p × (code_of dirs p ≡ code))) → IfOk r (λ o. IfNone o ((p : List Value) → AllFit types p → code_of dirs p ≡ code → ⊥)) → IfOk r (λ o. o ≡ position_behind number types dirs bytes)
  read_behind bytes head code fit same is rest r found none =
      let key : position_behind number types dirs bytes ≡ key_at types dirs code = ap (λ (b : Bool). if b then key_at types dirs (drop 3 bytes) else None) (ap (bytes_eq (take 3 bytes)) (sym is) ∙ same) ∙ ap (key_at types dirs) (sym rest) in
      subst (λ (q : Option (List Value)). IfOk r (λ o. o ≡ q)) (sym key) (read_key code (subst IsBytes (sym rest) (IsBytes-drop 3 bytes fit)) r found none)

  behind_again : (p : List Value) → AllFit types p → position_behind number types dirs (cursor_bytes number dirs p) ≡ Some p
  behind_again p fit =
      ap (λ b. if b then key_at types dirs (code_of dirs p) else None) ((bytes_eq-Decides (cursor_head number) (cursor_head number)).1 refl) ∙ key_again types dirs p long fit

  -- a text that is read is the cursor of the position read; the decoder's clause says that it gives bytes
  pub cursor_found : (text bytes : List ℕ) (p : List Value) → IsBytes text → decode_of url_safe_no_pad text ≡ Ok bytes → IsBytes bytes → position_in number types dirs text ≡ Some p → IsCursorOf number types dirs text p
  unfolding position_in decoded_of cursor_text
  cursor_found text bytes p text_fit is fit found =
      let at : position_behind number types dirs bytes ≡ Some p = ap (option_and_then (position_behind number types dirs)) (sym (decoded (decode_of url_safe_no_pad text) bytes is)) ∙ found in
      let read = behind_is bytes p fit at in
      record { fits = read.0; is = decode_of_strict url_safe_no_pad text bytes (refl, refl) (IsBytes_at text text_fit) is ∙ ap (encode_of url_safe_no_pad) (sym read.1) }

  head_bytes : (rest : List ℕ) → IsBytes rest → IsBytes (cursor_head number ++ rest)
  head_bytes rest fit = (omega arith, (mod-lt (number / 256) (omega arith), (mod-lt number (omega arith), fit)))

  fit_bytes : (p : List Value) → AllFit types p → IsBytes (cursor_bytes number dirs p)
  fit_bytes p fits = head_bytes (code_of dirs p) (code_bytes dirs p (values_from_fits types p fits))

  -- the cursor of a position is read as it
  pub cursor_again : (p : List Value) → AllFit types p → position_in number types dirs (cursor_text number dirs p) ≡ Some p
  unfolding position_in decoded_of cursor_text
  cursor_again p fits =
      let fit = fit_bytes p fits in
      let bytes = cursor_bytes number dirs p in
      ap (option_and_then (position_behind number types dirs)) (decoded (decode_of url_safe_no_pad (encode_of url_safe_no_pad bytes)) bytes (decode_of-encode_of url_safe_no_pad bytes refl (IsBytes_at bytes fit)))
      ∙ behind_again p fits

  -- a text that does not decode, or whose bytes hold no position, is no cursor
  pub no_cursor : (text : List ℕ) → position_in number types dirs text ≡ None → IsNoCursor number types dirs text
  no_cursor text unread = record {
    none = λ p is. none-some p (sym unread ∙ ap (position_in number types dirs) is.is ∙ cursor_again p is.fits);
    unread = unread;
  }

  pub undecoded : (text : List ℕ) (error : DecodeError) → decode_of url_safe_no_pad text ≡ Err error → position_in number types dirs text ≡ None
  unfolding position_in decoded_of
  undecoded text error is = ap (λ (r : Result (List ℕ) DecodeError). option_and_then (position_behind number types dirs) (result_ok r)) is

  pub decoded_is : (text bytes : List ℕ) (o : Option (List Value)) → decode_of url_safe_no_pad text ≡ Ok bytes → o ≡ position_behind number types dirs bytes → position_in number types dirs text ≡ o
  unfolding position_in decoded_of
  decoded_is text bytes o is behind = ap (λ (r : Result (List ℕ) DecodeError). option_and_then (position_behind number types dirs) (result_ok r)) is ∙ sym behind

  -- so no two positions have one cursor
  pub one_cursor : (text : List ℕ) (p q : List Value) → IsCursorOf number types dirs text p → IsCursorOf number types dirs text q → p ≡ q
  one_cursor text p q first second =
      same_Some p q (sym (cursor_again p first.fits) ∙ ap (position_in number types dirs) (sym first.is ∙ second.is) ∙ cursor_again q second.fits)
