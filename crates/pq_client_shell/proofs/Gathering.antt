-- The writes behind the front: what is written, and where it stops.
use Rattle.std.proofs.Common.{◌≡◌, ℕ, ◌+◌, inl, inr, Bool, ◌||◌, Option, List, [], ◌++◌, length, drop, refl, ap, ◌∙◌, subst}
use Rattle.std.specs.List.{list_any}
use Rattle.std.specs.Io.KnownBytes.{append_known}
use Rattle.pq_schema.specs.Schema.{Schema}
use Rattle.pq_store.specs.Content.{Content}
use Rattle.pq_store.specs.Counts.{Counts}
use Rattle.pq_text.specs.declared.piece.Piece.{Piece}
use Rattle.pq_index_keep.specs.declared.write.Write.{Write}
use Rattle.pq_shell.specs.Making.{moment}
use Rattle.pq_shell.specs.Serving.{rest_text}
use Rattle.pq_console.specs.Stops.{CutsOff}
use Rattle.pq_console.specs.declared.stop.Stop.{Stop}
use Rattle.pq_console.specs.declared.stop.Stop.TheVariants as stops
use Rattle.pq_client_shell.specs.Lines.{between_text, skipped_text}
use Rattle.pq_client_shell.specs.Runs.{HaltsGathered, MadeGathered, RanClients, TellsAll, TellsPart}
use Rattle.pq_client_shell.specs.Runs.TellsPart.{Undealt, Cut}
use Rattle.pq_client_shell.specs.Writes.{front_count, gathered_of, is_skipped, writes_of}
use Rattle.pq_client_shell.specs.declared.script.Script.{Script}

-- ---- the pieces behind the front

module _ (all : List Piece) (count : ℕ) (count_is : count ≡ front_count all) where
  behind_is : drop count all ≡ gathered_of all
  behind_is = ap (λ n. drop n all) count_is

  pub writes_behind : (s : Schema) (ws : List Write) → ws ≡ writes_of s (drop count all) → ws ≡ writes_of s (gathered_of all)
  writes_behind s ws is = is ∙ ap (writes_of s) behind_is

  pub skips_behind : (s : Schema) (skipped : Bool) → skipped ≡ list_any (is_skipped s) (drop count all) → skipped ≡ list_any (is_skipped s) (gathered_of all)
  skips_behind s skipped is = is ∙ ap (list_any (is_skipped s)) behind_is

  pub between_is : (s : Schema) (unfinished : Bool) (lines text : List ℕ) → lines ≡ skipped_text s (count + 1) (drop count all) → text ≡ lines ++ rest_text unfinished (length all + 1) → text ≡ between_text s all unfinished
  between_is s unfinished lines text lines_is text_is =
      text_is ∙ ap (λ l. l ++ rest_text unfinished (length all + 1)) (lines_is ∙ ap (λ n. skipped_text s (n + 1) (drop count all)) count_is ∙ ap (skipped_text s (front_count all + 1)) behind_is)

-- ---- the clients

pub undealt : (k : ℕ) (s : Schema) (ws : List Write) (old now : Option Content) (held : Option (List ℕ)) (before after : Counts) → now ≡ old → after ≡ before → TellsPart k s ws stops.NoMem (moment old held before) (moment now held after)
undealt k s ws old now held before after same counts = Undealt refl same counts refl

-- ---- both

module _ (k : ℕ) (s : Schema) (script : Script) (old : Option Content) (held : Option (List ℕ)) (before : Counts) where
  -- there was no memory before anything was written
  pub halts_lost : HaltsGathered k s script stops.NoMem (moment old held before) (moment old held before)
  halts_lost = inl (record { content = refl; counts = refl; text = inl refl })

  module _ (text : List ℕ) (is : text ≡ between_text s script.pieces script.unfinished) where
    -- the text is cut off
    pub halts_cut : (stop : Stop) (held' : Option (List ℕ)) → CutsOff stop text held held' → HaltsGathered k s script stop (moment old held before) (moment old held' before)
    halts_cut stop held' cut = inl (record { content = refl; counts = refl; text = inl (subst (λ t. CutsOff stop t held held') is cut) })

    module _ (held' : Option (List ℕ)) (out : held' ≡ append_known held text) (ws : List Write) (ws_is : ws ≡ writes_of s (gathered_of script.pieces)) (now : Option Content) (held'' : Option (List ℕ)) (after : Counts) where
      out_is : held' ≡ append_known held (between_text s script.pieces script.unfinished)
      out_is = out ∙ ap (append_known held) is

      pub halts_stepping : (stop : Stop) → TellsPart k s ws stop (moment old held' before) (moment now held'' after) → HaltsGathered k s script stop (moment old held before) (moment now held'' after)
      halts_stepping stop (Undealt stop_is same counts kept) = inl (record { content = same; counts = counts; text = inr (stop_is, kept ∙ out_is) })
      halts_stepping stop (Cut told ran text_is) = inr (record {
        held = held';
        told = told;
        stepped = record { between = out_is; ran = subst (λ (xs : List Write). RanClients k s xs old now before after told) ws_is ran };
        text = text_is;
      })

      pub made_gathered : (skipped undone behind refused : Bool) → TellsAll k s ws undone (moment old held' before) (moment now held'' after) → skipped ≡ list_any (is_skipped s) (gathered_of script.pieces)
          → behind ≡ (script.unfinished || undone) → refused ≡ (skipped || behind) → MadeGathered k s script refused (moment old held before) (moment now held'' after)
      made_gathered skipped undone behind refused tells skipped_is behind_is refused_is = record {
        held = held';
        told = tells.told;
        stepped = record { between = out_is; ran = subst (λ (xs : List Write). RanClients k s xs old now before after tells.told) ws_is tells.ran };
        text = tells.text;
        unbroken = tells.unbroken;
        refusal = refused_is ∙ ap (λ b. b || behind) skipped_is ∙ ap (λ b. list_any (is_skipped s) (gathered_of script.pieces) || b) (behind_is ∙ ap (λ b. script.unfinished || b) tells.undone_is);
      }
