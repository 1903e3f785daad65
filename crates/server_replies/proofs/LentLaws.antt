-- A row as it is lent: what the code leaves in its words is the row that is meant.
use mathlib.Core.Path.{◌≡◌, refl, sym, ap, ◌∙◌}
use mathlib.Core.List.{List}
use Prim.Native.Nat.{ℕ, zero, suc, ◌≤◌}
use lib.ListN.{length, get_or, take, drop}
use Rattle.base_bounds.specs.Bounds.{cluster_limit}
use Rattle.base_octets.specs.Store.{store}
use Rattle.node_schema.specs.Rows.{rows_from}
use Rattle.server_selection.specs.Request.{filters_at, standing_at}
use Rattle.server_selection.proofs.RequestLaws.{store_step, store_same, paths-back, filters-back}
use Rattle.server_report.specs.declared.part.OpenRead.{OpenRead}
use Rattle.server_replies.specs.declared.ExchangeRow.{ExchangeRow}
use Rattle.server_replies.specs.declared.RowStanding.{RowStanding}
use Rattle.server_replies.specs.Row.{kept_reply, request_in, standing_of, row_in, standing_in, standing_words, row_of, put_request, put_row}
use Rattle.server_replies.specs.Begin.{Begins}

-- ---- words stored over themselves stay

pub request-same : (row : List ℕ) (asked : ℕ) → put_request row (request_in row asked) ≡ row
unfolding put_request
request-same row asked = ap (λ (l : List ℕ). store l filters_at (take cluster_limit (drop filters_at row))) (store_same row 0 filters_at) ∙ store_same row filters_at cluster_limit

words_same : (l : List ℕ) (n at : ℕ) → store l at (rows_from (λ i. get_or l i 0) n at) ≡ l
unfolding rows_from store
words_same l zero at = refl
words_same l (suc n) at = store_step l at (rows_from (λ i. get_or l i 0) n (suc at)) ∙ words_same l n (suc at)

standing-same : (row : List ℕ) → store row standing_at (standing_words (standing_in row)) ≡ row
unfolding standing_in standing_words rows_from
standing-same row = words_same row 10 standing_at

pub row_same : (row kept : List ℕ) → put_row row (row_of row kept) ≡ row
unfolding put_row
row_same row kept =
    ap (λ (l : List ℕ). store l standing_at (standing_words (standing_in row))) (request-same row (standing_in row).asked) ∙ standing-same row

-- ---- a reply that was given

module _ {x : ExchangeRow} {t : RowStanding} {row kept old new : List ℕ} where
  -- the request is as it was
  pub begins-same : row_in row t kept ≡ x → (new ≡ store old 0 (kept_reply (row_in row t kept))) × (length (kept_reply (row_in row t kept)) ≡ t.len) → Begins x t row row kept old new
  begins-same e (b, f) =
      record {
        standing = ap (λ (y : ExchangeRow). standing_of y) e;
        request = sym (request-same row t.asked) ∙ ap (λ (y : ExchangeRow). put_request row y.request) e;
        reply = ap (λ (y : ExchangeRow). y.kept) e;
        buffer = b ∙ ap (λ (y : ExchangeRow). store old 0 (kept_reply y)) e;
        full = ap (λ (y : ExchangeRow). length (kept_reply y)) (sym e) ∙ f ∙ ap (λ (y : ExchangeRow). y.len) e;
      }

  -- a new one was stored
  pub begins-anew : {stored : List ℕ} → row_in stored t kept ≡ x → stored ≡ put_request row x.request → (new ≡ store old 0 (kept_reply (row_in stored t kept))) × (length (kept_reply (row_in stored t kept)) ≡ t.len) → Begins x t row stored kept old new
  begins-anew e s (b, f) =
      record {
        standing = ap (λ (y : ExchangeRow). standing_of y) e;
        request = s;
        reply = ap (λ (y : ExchangeRow). y.kept) e;
        buffer = b ∙ ap (λ (y : ExchangeRow). store old 0 (kept_reply y)) e;
        full = ap (λ (y : ExchangeRow). length (kept_reply y)) (sym e) ∙ f ∙ ap (λ (y : ExchangeRow). y.len) e;
      }

-- the request that was stored is read back
pub request-back : (row : List ℕ) (r : OpenRead) → length r.paths ≡ filters_at → length r.filters ≡ cluster_limit → standing_at ≤ length row → request_in (put_request row r) r.asked ≡ r
unfolding put_request
request-back row r p f room = λ j. record {
  paths = paths-back row r.paths r.filters p f room j;
  asked = r.asked;
  filters = filters-back row r.paths r.filters p f room j;
}
