-- EVERY RUN OF THE ENDS FOLLOWS A RUN OF THE PROTOCOL, state by state and step by step.
use mathlib.Core.Path.{◌≡◌, refl, sym, subst}
use mathlib.Core.Logic.{◌⊎◌, inl, inr}
use mathlib.Core.List.{List}
use Prim.Native.Nat.{ℕ}
use Rattle.tlv_reader.specs.Value.{Datum}
use Rattle.proof_protocol.specs.Model.{Node, Message, Part, System}
use Rattle.proof_protocol.specs.Steps as model
use Rattle.proof_refinement.specs.Bytes.{MessageAs, PartRight, part_bytes}
use Rattle.proof_promises.specs.World.{Plan, World, Start}
use Rattle.proof_promises.specs.Runs.{Step, Run, none, then, join, Visits, Passes, BeginsNone, NoneBegun, Hears, Heard, Gets, Got}
use Rattle.proof_promises.specs.Follows.{Stands, node, Took, Follows}
use Rattle.proof_promises.proofs.StepLaws.{Moves, stays, steps, BeginsNoneMove, HearsMove, Received, Shadow, shadow}

module _ (p : Plan) (b : Start p) where
  abbrev w : List ℕ
  w = p.words

  module _ {u v z : World} (run : Run p u v) (step : Step p v z) {s : System Datum} (f : Follows p b run s) where
    -- the protocol stays where it is
    unmoved : Stands p z f.end → (BeginsNone step → Unit {0}) → ((m : List ℕ) → Hears m step → (q : Message) → MessageAs w m q → ⊥) → ((m : List ℕ) → Gets m step → (q : Part Datum) → PartRight w q → m ≡ part_bytes w q → ⊥) → Follows p b (then run step) s
    unmoved k begins-none heard got =
        record {
          end = f.end;
          follows = f.follows;
          stands = k;
          none-begun = λ c. f.none-begun c.0;
          visited = λ x i. seen x i;
          origin = λ t i. let r = f.origin t i in (r.0, inl r.1, r.2);
          passed = λ t t' i. let r = f.passed t t' i in (r.0, r.1, inl r.2, r.3, r.4);
          heard = λ m i q a. by-heard m i q a;
          got = λ m i q r e. by-got m i q r e;
        }
      where
        last : {s t : System Datum} (run : model.Run (node p b) s t) → model.Visits run t
        last model.none = refl
        last (model.then run x) = inr refl

        seen : (x : World) → Visits run x ⊎ (x ≡ z) → (t : System Datum) × model.Visits f.follows t × Stands p x t
        seen x (inl i) = f.visited x i
        seen x (inr e) = (f.end, last f.follows, subst (λ (y : World). Stands p y f.end) (sym e) k)

        by-heard : (m : List ℕ) → Heard m run ⊎ Hears m step → (q : Message) → MessageAs w m q → model.Heard q f.follows
        by-heard m (inl i) q a = f.heard m i q a
        by-heard m (inr i) q a = absurd (heard m i q a)

        by-got : (m : List ℕ) → Got m run ⊎ Gets m step → (q : Part Datum) → PartRight w q → m ≡ part_bytes w q → Took p b m f.follows
        by-got m (inl i) q r e = f.got m i q r e
        by-got m (inr i) q r e = absurd (got m i q r e)

    -- it takes a step
    moved : {t : System Datum} (x : model.Step (node p b) f.end t) → Stands p z t → (BeginsNone step → model.BeginsNone x) → ((m : List ℕ) → Hears m step → (q : Message) → MessageAs w m q → model.Hears q x) → ((m : List ℕ) → Gets m step → (q : Part Datum) → PartRight w q → m ≡ part_bytes w q → Received p b m (steps x)) → Follows p b (then run step) s
    moved {t} x k begins-none heard got =
        record {
          end = t;
          follows = model.then f.follows x;
          stands = k;
          none-begun = λ c. (f.none-begun c.0, begins-none c.1);
          visited = λ y i. seen y i;
          origin = λ t' i. from t' i;
          passed = λ a c i. passes a c i;
          heard = λ m i q a. by-heard m i q a;
          got = λ m i q r e. by-got m i q r e;
        }
      where
        seen : (y : World) → Visits run y ⊎ (y ≡ z) → (t' : System Datum) × model.Visits (model.then f.follows x) t' × Stands p y t'
        seen y (inl i) = let r = f.visited y i in (r.0, inl r.1, r.2)
        seen y (inr e) = (t, inr refl, subst (λ (y : World). Stands p y t) (sym e) k)

        from : (t' : System Datum) → model.Visits f.follows t' ⊎ (t' ≡ t) → (y : World) × Visits (then run step) y × Stands p y t'
        from t' (inl i) = let r = f.origin t' i in (r.0, inl r.1, r.2)
        from t' (inr e) = (z, inr refl, subst (Stands p z) (sym e) k)

        passes : (a c : System Datum) → model.Passes f.follows a c ⊎ ((a ≡ f.end) × (c ≡ t)) → (y : World) × (y' : World) × Passes (then run step) y y' × Stands p y a × Stands p y' c
        passes a c (inl i) = let r = f.passed a c i in (r.0, r.1, inl r.2, r.3, r.4)
        passes a c (inr e) = (v, z, inr (refl, refl), subst (Stands p v) (sym e.0) f.stands, subst (Stands p z) (sym e.1) k)

        by-heard : (m : List ℕ) → Heard m run ⊎ Hears m step → (q : Message) → MessageAs w m q → model.Heard q (model.then f.follows x)
        by-heard m (inl i) q a = inl (f.heard m i q a)
        by-heard m (inr i) q a = inr (heard m i q a)

        by-got : (m : List ℕ) → Got m run ⊎ Gets m step → (q : Part Datum) → PartRight w q → m ≡ part_bytes w q → Took p b m (model.then f.follows x)
        by-got m (inl i) q r e = let k = f.got m i q r e in record { part-got = k.part-got; bytes = k.bytes; right = k.right; got-it = inl k.got-it }
        by-got m (inr i) q r e = let k = got m i q r e in record { part-got = k.part-got; bytes = k.bytes; right = k.right; got-it = inr k.gets-it }

    one_more : (k : Shadow p b step f.end) → Follows p b (then run step) s
    one_more k = go k.move k.stands k.begins-none k.heard k.got
      where
        go : {t : System Datum} (x : Moves p b f.end t) → Stands p z t → (BeginsNone step → BeginsNoneMove p b x) → ((m : List ℕ) → Hears m step → (q : Message) → MessageAs w m q → HearsMove p b q x)
            → ((m : List ℕ) → Gets m step → (q : Part Datum) → PartRight w q → m ≡ part_bytes w q → Received p b m x) → Follows p b (then run step) s
        go stays i begins-none heard got = unmoved i begins-none heard (λ m j q r e. (got m j q r e).gets-it)
        go (steps x) i begins-none heard got = moved x i begins-none heard got

  -- THE LAW
  pub follow : {u v : World} (run : Run p u v) (s : System Datum) → Stands p u s → model.Reach (node p b) s → Follows p b run s
  follow {u} none s k reach =
      record {
        end = s;
        follows = model.none;
        stands = k;
        none-begun = λ _. tt;
        visited = λ x e. (s, refl, subst (λ (y : World). Stands p y s) (sym e) k);
        origin = λ t e. (u, refl, subst (Stands p u) (sym e) k);
        passed = λ t t' i. absurd i;
        heard = λ m i. absurd i;
        got = λ m i. absurd i;
      }
  follow (then {v = v'} run step) s k reach =
      let f = follow run s k reach in
      one_more run step f (shadow p b v' f.end f.stands (model.join reach f.follows) step)

  -- steps of one run after another
  pub passes-first : {u v z : World} (a : Run p u v) (c : Run p v z) (x y : World) → Passes a x y → Passes (join a c) x y
  passes-first a none x y i = i
  passes-first a (then c step) x y i = inl (passes-first a c x y i)

  pub passes-second : {u v z : World} (a : Run p u v) (c : Run p v z) (x y : World) → Passes c x y → Passes (join a c) x y
  passes-second a none x y i = absurd i
  passes-second {u} {v} {z} a (then {v = v'} c step) x y i = go (passes-second a c x y) i
    where
      go : (Passes c x y → Passes (join a c) x y) → Passes c x y ⊎ ((x ≡ v') × (y ≡ z)) → Passes (join a c) x y ⊎ ((x ≡ v') × (y ≡ z))
      go r (inl k) = inl (r k)
      go r (inr k) = inr k

pub model-passes : (n : Node Datum) {r s t : System Datum} (a : model.Run n r s) (c : model.Run n s t) (x y : System Datum) → model.Passes (model.join a c) x y → model.Passes a x y ⊎ model.Passes c x y
model-passes n a model.none x y i = inl i
model-passes n {r} {s} {t} a (model.then {t = t'} c step) x y i = go (model-passes n a c x y) i
  where
    split : model.Passes a x y ⊎ model.Passes c x y → model.Passes a x y ⊎ (model.Passes c x y ⊎ ((x ≡ t') × (y ≡ t)))
    split (inl z) = inl z
    split (inr z) = inr (inl z)

    go : (model.Passes (model.join a c) x y → model.Passes a x y ⊎ model.Passes c x y) → model.Passes (model.join a c) x y ⊎ ((x ≡ t') × (y ≡ t)) → model.Passes a x y ⊎ (model.Passes c x y ⊎ ((x ≡ t') × (y ≡ t)))
    go r (inl k) = split (r k)
    go r (inr k) = inr (inr k)
