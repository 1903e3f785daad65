-- WHAT ONE END WRITES, THE OTHER READS AS IT WAS MEANT: every kind of message, whatever it is written of that fits.
use Rattle.std.specs.Prelude.{Some, Option}
use mathlib.Core.Path.{◌≡◌, refl, ap, ◌∙◌}
use mathlib.Core.Bool.{Bool, true, false}
use mathlib.Core.List.{List, [], ◌∷◌, map, map-id}
use Prim.Native.Nat.{ℕ, ◌^◌, ◌<◌}
use native.Mathlib.Omega.{arith}
use borrow.Author.Tests.{le-ltb, lt-ltb, ne_eqb}
use Rattle.tlv_reader.specs.Octet.{pick}
use Rattle.tlv_reader.specs.Tree.Tag.{anonymous}
use Rattle.tlv_reader.specs.Value.{Datum}
use Rattle.tlv_reader.specs.Decode.{bind_o, fold_t}
use Rattle.tlv_writer.specs.Meaning.{Writable}
use Rattle.im_members.specs.Fields.{place_of, put_t, field_m, fields_t}
use Rattle.im_members.specs.Scalar.{ABSENT, number_t, flag_t}
use Rattle.im_members.specs.Array.{map_o, required_t, optional_t, each_t}
use Rattle.im_blocks.specs.declared.Filter.{Filter}
use Rattle.im_blocks.specs.Path.{banned, loose, askable_p, exact_p}
use Rattle.im_blocks.specs.Status.{answer_t}
use Rattle.im_blocks.specs.Data.{report_t}
use Rattle.im_requests.specs.declared.VersionFilter.{VersionFilter}
use Rattle.im_requests.specs.Status.{response_in, response_slots, response_t}
use Rattle.im_requests.specs.Read.{asked_of, asked_t, local_f, version_filter_if, version_filter_t, read_in, read_slots, read_t}
use Rattle.im_requests.proofs.WholeLaws.{response-law, read-law}
use Rattle.im_requests.specs.Write.{entry_for, entry_t, unchunked, write_in, write_slots, write_t, write_tree}
use Rattle.im_requests.proofs.WriteLaws.{write-law}
use Rattle.im_responses.specs.Report.{part_in, part_slots, part_t, part_tree}
use Rattle.im_responses.proofs.MeaningLaws.{part-law}
use Rattle.im_responses.specs.Answered.{only, answered_in, answered_slots, answered_t}
use Rattle.im_responses.proofs.AnsweredLaws.{answered-law}
use Rattle.im_writer.specs.Spelling.{primitive_d, Each}
use Rattle.im_writer.specs.Block.{Block, block_tree, answer_tree}
use Rattle.im_writer.specs.Message.{revision, status_members, report_ending, report_members, response_members, ListedTree}
use Rattle.im_writer.specs.Meaning.{exact_data, PathFits, Fits, block_means}
use Rattle.im_writer.proofs.BlockLaws.{answer-means, listed-write-status, listed-block, block-means}
use Rattle.im_writer.proofs.MessageLaws.{status-spells, report-spells, response-spells}
use Rattle.im_request_writer.specs.Request.{wildcard_tree, paths_tree, filter_members, read_members, entry_tree, write_members}
use Rattle.im_request_writer.proofs.FilterLaws.{wildcard-means, filter-means, listed-filter, entry-means}
use Rattle.im_request_writer.proofs.RequestLaws.{read-spells, write-spells}
use Rattle.proof_round_trip.specs.Meant.{status_octets, VersionFilterFits, version_filter_tree, read_octets, everything, read_means, write_octets, write_means, report_octets, report_means, WriteStatus, OutcomeFits, outcome_tree, outcomes_octets, outcome_means}
use Rattle.proof_round_trip.proofs.ListLaws.{each_map, list_of}

-- STATUS RESPONSE
status-means : (code : ℕ) → code < 2 ^ 8 → response_t (status_members code) ≡ Some code
unfolding response_t response_slots status_members revision fields_t fold_t field_m put_t place_of number_t
status-means code fits = rw (le-ltb 255 code (omega arith), lt-ltb code ABSENT (omega arith)) refl

pub status-back : (code : ℕ) → code < 2 ^ 8 → response_in (status_octets code) ≡ Some code
status-back code fits = response-law (status_members code) (status_octets code) (status-spells code fits) ∙ status-means code fits

-- READ REQUEST
asked-means : asked_t wildcard_tree ≡ Some everything
unfolding asked_t asked_of askable_p banned loose
asked-means = rw wildcard-means refl

version-filter-means : (f : VersionFilter) → VersionFilterFits f → version_filter_t (version_filter_tree f) ≡ Some f
unfolding version_filter_t version_filter_if local_f
version-filter-means f h =
    ap (λ (o : Option Filter). bind_o o version_filter_if) (filter-means f.endpoint f.cluster f.version h.endpoint-fits h.cluster-fits h.version-fits)

listed-version-filter : (f : VersionFilter) → VersionFilterFits f → ListedTree (version_filter_tree f)
listed-version-filter f h = listed-filter f.endpoint f.cluster f.version h.endpoint-fits h.cluster-fits h.version-fits

read-means : (fs : List VersionFilter) → Each VersionFilterFits fs → read_t (read_members (map version_filter_tree fs)) ≡ Some (read_means fs)
unfolding read_t read_slots read_members filter_members paths_tree revision fields_t fold_t field_m put_t place_of number_t flag_t optional_t each_t
read-means [] h = rw asked-means refl
read-means (f ∷ fs) h = rw (asked-means, list_of VersionFilterFits version_filter_tree version_filter_t (λ x. x) version-filter-means (f ∷ fs) h, map-id fs) refl

pub read_back : (fs : List VersionFilter) → Each VersionFilterFits fs → read_in (read_octets fs) ≡ Some (read_means fs)
read_back fs h =
    read-law (read_members (map version_filter_tree fs)) (read_octets fs) (read-spells (map version_filter_tree fs) (each_map VersionFilterFits version_filter_tree ListedTree listed-version-filter fs h))
    ∙ read-means fs h

-- WRITE REQUEST
module _ (given : Bool) (version e c a : ℕ) (d : Datum) (fv : version < 2 ^ 32) (p : PathFits e c a) where
  entry_read_lem : entry_t (entry_tree given version e c a d) ≡ Some (entry_for (exact_data (pick given version ABSENT) e c a d))
  unfolding entry_t exact_p banned
  entry_read_lem =
      rw (entry-means e c a p.endpoint-fits p.cluster-fits p.attribute-fits d version fv given, ne_eqb e ABSENT (λ q. omega (arith, p.endpoint-fits)), ne_eqb c ABSENT (λ q. omega (arith, p.cluster-fits)), ne_eqb a ABSENT (λ q. omega (arith, p.attribute-fits)))
      refl

  write-means : write_t (write_members (entry_tree given version e c a d)) ≡ Some (write_means given version e c a d)
  unfolding write_t write_slots write_members revision fields_t fold_t field_m put_t place_of number_t flag_t required_t each_t unchunked
  write-means = rw entry_read_lem refl

  pub write-back : Writable (primitive_d d) → map_o (write_tree 7 (write_octets given version e c a d)) (write_in (write_octets given version e c a d)) ≡ Some (write_means given version e c a d)
  write-back w =
      write-law (write_members (entry_tree given version e c a d)) (write_octets given version e c a d) (write-spells given version e c a d fv p.endpoint-fits p.cluster-fits p.attribute-fits w)
      ∙ write-means

-- REPORT
report-means : (l : List Block) (m : Bool) → Each Fits l → part_t (report_members (map block_tree l) m) ≡ Some (report_means l m)
unfolding part_t part_slots report_members report_ending revision fields_t fold_t field_m put_t place_of number_t flag_t optional_t
report-means [] true h = refl
report-means [] false h = refl
report-means (b ∷ l) true h = rw (list_of Fits block_tree report_t block_means block-means (b ∷ l) h) refl
report-means (b ∷ l) false h = rw (list_of Fits block_tree report_t block_means block-means (b ∷ l) h) refl

pub report-back : (l : List Block) (m : Bool) → Each Fits l → map_o (part_tree 6 (report_octets l m)) (part_in (report_octets l m)) ≡ Some (report_means l m)
report-back l m h =
    part-law (report_members (map block_tree l) m) (report_octets l m) (report-spells (map block_tree l) m (each_map Fits block_tree ListedTree listed-block l h))
    ∙ report-means l m h

-- WRITE RESPONSE
outcome-means : (o : WriteStatus) → OutcomeFits o → answer_t (outcome_tree o) ≡ Some (outcome_means o)
unfolding answer_tree
outcome-means o h =
    let p = h.path-fits in
    answer-means o.endpoint o.cluster o.attribute p.endpoint-fits p.cluster-fits p.attribute-fits o.code h.code_fits anonymous

listed-outcome : (o : WriteStatus) → OutcomeFits o → ListedTree (outcome_tree o)
listed-outcome o h =
    let p = h.path-fits in
    listed-write-status o.endpoint o.cluster o.attribute p.endpoint-fits p.cluster-fits p.attribute-fits o.code h.code_fits

answers-means : (l : List WriteStatus) → Each OutcomeFits l → answered_t (response_members (map outcome_tree l)) ≡ only (map outcome_means l)
unfolding answered_t answered_slots response_members revision fields_t fold_t field_m put_t place_of number_t required_t
answers-means l h = rw (list_of OutcomeFits outcome_tree answer_t outcome_means outcome-means l h) refl

-- one status is read as that status, none or two as none
pub answers-back : (l : List WriteStatus) → Each OutcomeFits l → answered_in (outcomes_octets l) ≡ only (map outcome_means l)
answers-back l h =
    answered-law (response_members (map outcome_tree l)) (outcomes_octets l) (response-spells (map outcome_tree l) (each_map OutcomeFits outcome_tree ListedTree listed-outcome l h))
    ∙ answers-means l h
