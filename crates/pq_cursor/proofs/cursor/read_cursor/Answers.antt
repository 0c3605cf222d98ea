use Rattle.std.proofs.Common.{◌≡◌, Ok, refl, sym, ap, subst, ◌∙◌}
use Rattle.base64.specs.Engines.{url_safe_no_pad}
use Rattle.base64.specs.GeneralPurpose.{IsDecodeFailure, decode_of}
use Rattle.base64.specs.declared.decode.DecodeAllocError.{DecodeAllocError}
use Rattle.pq_key_code.proofs.Order.{utf8_bytes}
use Rattle.pq_key_code.proofs.Reading.{IsBytes_from}
use Rattle.pq_cursor.specs.Cursors.{position_behind}
use Rattle.pq_cursor.proofs.Cursors.{cursor_found, no_cursor, undecoded, decoded_is}
use Rattle.pq_cursor.proofs.cursor.read_cursor.Goals as goal

pub returns-in-Err-DecodeError-clause-refused : goal.returns-in-Err-DecodeError-clause-refused
returns-in-Err-DecodeError-clause-refused c =
    let failed = subst (λ (e : DecodeAllocError). IsDecodeFailure url_safe_no_pad c.bytes.result.now e) c.in-Err-DecodeError.field-0-is c.in-Err-DecodeError.ensures.err in (
      refl,
      no_cursor c.args.query c.args.types.now c.args.dirs.now c.requires c.args.text.now
          (undecoded c.args.query c.args.types.now c.args.dirs.now c.requires c.args.text.now c.in-Err-DecodeError.field-0-0 (ap (decode_of url_safe_no_pad) (sym c.bytes.ensures.value) ∙ failed)),
    )

pub returns-in-Some-clause-found : goal.returns-in-Some-clause-found
returns-in-Some-clause-found c =
    let decoded : decode_of url_safe_no_pad c.args.text.now ≡ Ok c.in-Ok.bytes.items = ap (decode_of url_safe_no_pad) (sym c.bytes.ensures.value) ∙ c.in-Ok.ensures.ok in
    let behind = sym c.in-Some.is ∙ c.in_ok-position.ensures ∙ ap (position_behind c.args.query c.args.types.now c.args.dirs.now) c.as_slice.ensures.value in
    cursor_found c.args.query c.args.types.now c.args.dirs.now c.requires c.args.text.now c.in-Ok.bytes.items c.in-Some.position
    (utf8_bytes c.args.text.now c.bytes.ensures.utf8) decoded (IsBytes_from c.in-Ok.bytes.items c.in-Ok.ensures.bytes)
    (decoded_is c.args.query c.args.types.now c.args.dirs.now c.requires c.args.text.now c.in-Ok.bytes.items _ decoded behind)

pub returns-clause-refused : goal.returns-clause-refused
returns-clause-refused c =
    let decoded : decode_of url_safe_no_pad c.args.text.now ≡ Ok c.in-Ok.bytes.items = ap (decode_of url_safe_no_pad) (sym c.bytes.ensures.value) ∙ c.in-Ok.ensures.ok in
    let behind = sym c.in-None.is ∙ c.in_ok-position.ensures ∙ ap (position_behind c.args.query c.args.types.now c.args.dirs.now) c.as_slice.ensures.value in (
      refl,
      no_cursor c.args.query c.args.types.now c.args.dirs.now c.requires c.args.text.now
          (decoded_is c.args.query c.args.types.now c.args.dirs.now c.requires c.args.text.now c.in-Ok.bytes.items _ decoded behind),
    )
