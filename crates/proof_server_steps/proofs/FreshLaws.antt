-- A FRESH SERVER stands for the protocol's start.
use mathlib.Core.Path.{◌≡◌, refl, sym, ap, ◌∙◌}
use mathlib.Core.Bool.{true, true≢false}
use mathlib.Core.List.{List}
use Prim.Native.Nat.{ℕ, ◌+◌, ◌*◌, ◌-◌, ◌^◌, ◌≤◌, ◌<◌}
use native.Mathlib.Nat.{mod-eq_of_lt}
use native.Mathlib.Omega.{arith}
use borrow.Author.Tests.{ltb-true, ltb-false}
use lib.Dec.{ltb}
use lib.ListN.{length, get_or, replicate, length-replicate, get_or-replicate, get_or-eq_default}
use lib.Seq.{get_or-append-add}
use Rattle.base_bounds.specs.Bounds.{cluster_limit}
use Rattle.tlv_reader.specs.Value.{Datum}
use Rattle.node_schema.specs.Layout.{text_size}
use Rattle.node_schema.specs.Rows.{cluster_row, count_of_clusters, rows_from}
use Rattle.node_schema.specs.Check.{count_of_texts}
use Rattle.node_schema.specs.Rules.{Rules}
use Rattle.node_schema.proofs.BoolLaws.{by-test}
use Rattle.node_schema.proofs.RowLaws.{rows-length}
use Rattle.node_schema.proofs.RulesLaws.{well-formed-rules, cluster-rules}
use Rattle.node_plan.specs.Check.{accepted}
use Rattle.node_access.specs.declared.Grants.{Grants}
use Rattle.server_values.specs.Fresh.{first_versions, fresh_values}
use Rattle.server_values.proofs.FreshLaws.{fresh-version}
use Rattle.server_replies.specs.Messages.{max_message}
use Rattle.server_replies.specs.Row.{standing_in}
use Rattle.server.specs.Start.{fresh_row, started}
use Rattle.server.proofs.StartLaws.{accepted-schema}
use Rattle.server.proofs.FreshLaws.{fresh-valid}
use Rattle.proof_protocol.specs.Model as Model
use Rattle.proof_refinement.specs.Terms.{node_of, ClustersAs}
use Rattle.proof_refinement.specs.Bytes.{silent}
use Rattle.proof_refinement.specs.Server.{RowAs, ServerAs}

module _ (w defaults : List ℕ) (h : accepted w defaults ≡ true) where
  rules : Rules w
  rules = (well-formed-rules w).0 (accepted-schema w defaults h)

  -- past the clusters that are there stand zeros
  past : (k : ℕ) → count_of_clusters w ≤ k → get_or (fresh_values w).versions k 0 ≡ 0
  unfolding fresh_values
  past k l =
      let f : ℕ → ℕ = λ i. (cluster_row w i).version in
      let n = count_of_clusters w in
      let q : k ≡ length (rows_from f n 0) + (k - n) = omega (arith, rows-length f n 0) in
      ap (λ (j : ℕ). get_or (first_versions w) j 0) q
      ∙ get_or-append-add (rows_from f n 0) (replicate (cluster_limit - n) 0) (k - n) 0
      ∙ by-test (ltb (k - n) (cluster_limit - n)) (λ t. get_or-replicate (cluster_limit - n) (k - n) 0 0 (ltb-true (k - n) (cluster_limit - n) t))
      (λ t. get_or-eq_default (replicate (cluster_limit - n) 0) 0 (omega (arith, length-replicate {A = ℕ} (cluster_limit - n) 0, ltb-false (k - n) (cluster_limit - n) t)))

  fresh-fit : (k : ℕ) → get_or (fresh_values w).versions k 0 < 2 ^ 32
  fresh-fit k =
      by-test (ltb k (count_of_clusters w))
      (λ t. let l = ltb-true k (count_of_clusters w) t in omega (arith, fresh-version w k l, (cluster-rules w rules k l).version))
      (λ t. omega (arith, past k (ltb-false k (count_of_clusters w) t)))

  module _ (edits : List ℕ) (size : length edits ≡ text_size * count_of_texts w) (g : Grants) (sent : List (List ℕ)) where
    abbrev begun : Model.System Datum
    begun = Model.start (node_of w defaults edits g)

    fresh-held : ClustersAs w defaults edits (fresh_values w) begun.clusters
    fresh-held = record { versions = λ k l. mod-eq_of_lt (fresh-fit k); values = λ i l. refl }

    fresh-row : RowAs w g sent fresh_row begun.row
    unfolding fresh_row standing_in
    fresh-row =
        record {
          exchange = refl;
          turn = refl;
          more = refl;
          closed = refl;
          going = λ e. absurd (true≢false (sym e));
          kept = silent refl refl;
          whole = length-replicate {A = ℕ} max_message 0;
        }

    pub fresh-server : ServerAs (record { schema = w; defaults = defaults; state = (started w defaults edits).state }) g sent begun.clusters begun.row
    unfolding started
    fresh-server =
        let v = fresh-valid w defaults h edits size in
        rw h (record { valid = rw h at v; versions-fit = fresh-fit; held = fresh-held; row = fresh-row })
