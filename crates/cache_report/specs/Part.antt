-- A part is checked as a whole before any block sets its entry (RULES 7.7, 7.8).
use Rattle.std.specs.Prelude.{List, [], ◌∷◌, ℕ, Some, None, Option}
use Rattle.im_blocks.specs.Data.{ReportOf, report_struct}
use Rattle.im_responses.specs.Report.{PartOf, part_in}
use Rattle.cache_entries.specs.declared.Cached.{Cached}
use Rattle.cache_report.specs.Block.{Judgement, judgement_of}
use Rattle.cache_report.specs.Entry.{number_for, held_for, worse, page_for}

-- the blocks of a payload that is a part
abbrev pub blocks_of : Option (PartOf ℕ) → List (ReportOf ℕ)
blocks_of None = []
blocks_of (Some p) = p.blocks

unfoldable pub blocks_in : List ℕ → List (ReportOf ℕ)
blocks_in s = blocks_of (part_in s)

abbrev pub judgement_in : List ℕ → ReportOf ℕ → Judgement
judgement_in s x = judgement_of s (report_struct x)

-- THE ENTRIES after blocks, the first first
unfoldable pub held_all : List ℕ → Cached → List (ReportOf ℕ) → Cached
held_all s c [] = c
held_all s c (x ∷ l) = held_all s (held_for c (judgement_in s x)) l

-- the page after blocks
unfoldable pub page_all : List ℕ → Cached → List ℕ → List (ReportOf ℕ) → List ℕ
page_all s c page [] = page
page_all s c page (x ∷ l) = page_all s (held_for c (judgement_in s x)) (page_for s c page (judgement_in s x)) l

-- a number so far, and the entries that it was found with
pub record Judged : Type 0 where
  pub number : ℕ
  pub held : Cached

-- THE NUMBER that blocks get, with the entries that they lead to: 6 if one of them gets 6, else 7 if one gets 7
abbrev pub judged_next : List ℕ → Judged → ReportOf ℕ → Judged
judged_next s j x =
    record { number = worse j.number (number_for j.held (judgement_in s x)); held = held_for j.held (judgement_in s x) }

unfoldable pub judged_all : List ℕ → Judged → List (ReportOf ℕ) → Judged
judged_all s j [] = j
judged_all s j (x ∷ l) = judged_all s (judged_next s j x) l
