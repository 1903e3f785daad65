-- An entry that the cache holds can be shown: its text lies in the page, and version and value fit the buffer.
use mathlib.Core.Path.{◌≡◌, refl}
use mathlib.Core.List.{List}
use Prim.Native.Nat.{ℕ, ◌≤◌}
use native.Mathlib.Omega.{arith}
use lib.ListN.{length, drop, length-take}
use Rattle.tlv_reader.specs.Octet.{pick, tag_width}
use Rattle.tlv_reader.specs.declared.Value.TheVariants as Parsed
use Rattle.tlv_reader.specs.Value.{Datum}
use Rattle.tlv_writer.specs.declared.Tag.TheVariants.{Anonymous}
use Rattle.tlv_writer.specs.Element.{form_of, head_length, datum_octets}
use Rattle.tlv_writer.proofs.Widths.{unsigned-is-width, signed-is-width}
use Rattle.tlv_writer.proofs.Octets.{length-unsigned, length-signed, length-boolean, length-null, length_float, length-text}
use Rattle.im_writer.specs.Block.{ShortText}
use Rattle.im_writer.proofs.LengthLaws.{width-most}
use Rattle.cache_state.specs.declared.CacheState.{CacheState}
use Rattle.cache_state.specs.Words.{words_right}
use Rattle.cache_ask.specs.declared.EntryHeld.{EntryHeld}
use Rattle.cache_ask.specs.declared.EntryHeld.TheVariants as held
use Rattle.cache_ask.specs.Ask.{entry_of}
use Rattle.cache_ask.proofs.AskLaws.{text-inside}
use Rattle.script_cache.specs.Shown.{Showable}

pub showable : (asked page : List ℕ) (s : CacheState) (e c a : ℕ) (h : EntryHeld) → h ≡ pick (words_right asked) (entry_of page s e c a) held.Broken → Showable page h
unfolding ShortText
showable asked page s e c a held.Broken q = tt
showable asked page s e c a held.Nothing q = tt
showable asked page s e c a (held.Here v Parsed.Null) q = (tt, tt)
showable asked page s e c a (held.Here v (Parsed.Boolean b)) q = (tt, tt)
showable asked page s e c a (held.Here v (Parsed.Unsigned n)) q = (tt, tt)
showable asked page s e c a (held.Here v (Parsed.Signed z)) q = (tt, tt)
showable asked page s e c a (held.Here v (Parsed.Float n)) q = (tt, tt)
showable asked page s e c a (held.Here v (Parsed.Text start n)) q =
    let t = text-inside asked page s e c a q refl in
    (t.0, omega (arith, t.1, length-take n (drop start page)))
showable asked page s e c a (held.Here v Parsed.Other) q = (tt, tt)

pub untagged-bound : (d : Datum) → ShortText d → length (datum_octets Anonymous d) ≤ 209
unfolding ShortText datum_octets head_length form_of tag_width
untagged-bound Datum.null h = omega (arith, length-null Anonymous)
untagged-bound (Datum.boolean b) h = omega (arith, length-boolean Anonymous b)
untagged-bound (Datum.unsigned n) h = omega (arith, length-unsigned Anonymous n, width-most (unsigned-is-width n))
untagged-bound (Datum.signed z) h = omega (arith, length-signed Anonymous z, width-most (signed-is-width z))
untagged-bound (Datum.float n) h = omega (arith, length_float Anonymous n)
untagged-bound (Datum.text bs) h = omega (arith, length-text Anonymous bs, width-most (unsigned-is-width (length bs)))
untagged-bound Datum.other h = omega arith
