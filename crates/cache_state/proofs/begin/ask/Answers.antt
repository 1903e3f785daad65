use mathlib.Core.Path.{refl, sym, ap, subst, ◌∙◌}
use mathlib.Core.List.{List}
use Prim.Native.Nat.{ℕ, ◌≤◌}
use Rattle.cache_state.specs.declared.CacheState.{CacheState}
use Rattle.cache_state.specs.declared.CacheStanding.{CacheStanding}
use Rattle.cache_state.specs.Words.{standing_in, standing_of, state_in, state_with}
use Rattle.cache_state.specs.Begin.{asking, asked_as, keeping}
use Rattle.cache_state.proofs.WordLaws.{words_right_lem, put_as, state-back}
use Rattle.cache_state.proofs.begin.ask.Goals as goal

pub asked_as-requires : goal.asked_as-requires
unfolding standing_in
asked_as-requires c = let p = c.requires in (p.1.1.1.0, subst (λ (t : CacheStanding). t.primed ≤ 1) (sym p.0) (words_right_lem c.args.asked.now p.1.0).primed)

pub returns : goal.returns
unfolding asked_as keeping
returns c = let a = c.args in let p = c.requires in let m : List ℕ = a.message.now in
    record {
      value = refl;
      left = λ clusters keys versions kinds words order lengths.
          let s : CacheState = asking (state_in clusters keys versions kinds words order lengths a.asked.now a.kept.now) a.stage a.endpoint a.cluster a.attribute m in
          let e = c.asked_as.ensures clusters keys versions kinds words order lengths a.kept.now m refl ∙ ap (λ (t : CacheStanding). standing_of (asking (state_with clusters keys versions kinds words order lengths t a.kept.now) a.stage a.endpoint a.cluster a.attribute m)) p.0 in
          let w = put_as a.asked.now p.1.0 s e c.put_standing.ensures in
          record { state = (λ j. state_in clusters keys versions kinds words order lengths (w j) (c.keep.ensures.kept_after j)) ∙ state-back a.asked.now p.1.0 p.1.1.0 s; words = w };
    }
