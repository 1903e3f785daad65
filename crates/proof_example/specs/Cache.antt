-- What the cache holds in the run: after beginning, after part 1, and after part 2.
use Rattle.std.specs.Prelude.{Bool, true, false, List, [], ◌∷◌, ◌++◌, ℕ, ◌-◌, ◌*◌, length, replicate}
use Rattle.im_envelope.specs.Envelope.{max_message}
use Rattle.node_schema.specs.Layout.{text_size}
use Rattle.cache_entries.specs.declared.Cached.{Cached}
use Rattle.cache_entries.specs.Limits.{max_entries, max_clusters, text_places, text_kind, page_size}
use Rattle.cache_state.specs.declared.CacheState.{CacheState}
use Rattle.cache_state.specs.declared.Request.{Request}
use Rattle.cache_state.specs.State.{reading, last_part}
use Rattle.cache_state.specs.Begin.{fresh}
use Rattle.proof_example.specs.Plan.{key, path, text}
use Rattle.proof_example.specs.Messages.{request, success, new, kept_over}

-- the read of exchange 1: how it stands, the turn awaited, and the newest message kept
abbrev asking : ℕ → ℕ → List ℕ → ℕ → Request
asking stage turn kept len =
    record {
      used = 1;
      exchange = 1;
      stage = stage;
      turn = turn;
      status = 0;
      endpoint = 0;
      cluster = 0;
      attribute = 0;
      unknown = 0;
      kept = kept;
      len = len;
    }

unfoldable pub kept_request : List ℕ
kept_request = kept_over request (replicate max_message 0)

unfoldable pub kept_success : List ℕ
kept_success = kept_over success kept_request

-- a list in a column of so many words
abbrev within : ℕ → List ℕ → List ℕ
within size l = l ++ replicate (size - length l) 0

-- entries of both clusters, all texts: keys, versions and lengths. Keys and clusters came in rising order, and each text got the next place of the page: what
-- is in order is as many numbers from 0 on
abbrev holding : List ℕ → List ℕ → List ℕ → List ℕ → Bool → Cached
holding places keys versions lengths primed =
    record {
      clusters = within max_clusters (path 6 ∷ path 8 ∷ []);
      cluster_count = 2;
      keys = within max_entries keys;
      versions = within max_entries versions;
      kinds = within max_entries (replicate (length keys) text_kind);
      words = within max_entries places;
      count = length keys;
      order = within max_entries places ++ within max_clusters (0 ∷ 1 ∷ []);
      lengths = within text_places lengths;
      primed = primed;
    }

unfoldable pub panel1 : CacheState
unfolding fresh
panel1 = record { held = fresh.held; asked = asking reading 1 kept_request (length request) }

unfoldable pub panel2 : CacheState
panel2 =
    record {
      held =
          holding (0 ∷ 1 ∷ 2 ∷ 3 ∷ []) (key 0 0 ∷ key 0 1 ∷ key 1 0 ∷ key 1 1 ∷ []) (5 ∷ 5 ∷ 0xFFFF_FFFF ∷ 0xFFFF_FFFF ∷ [])
          (200 ∷ 200 ∷ 200 ∷ 200 ∷ []) false;
      asked = asking reading 2 kept_success (length success);
    }

unfoldable pub panel3 : CacheState
panel3 =
    record {
      held =
          holding (0 ∷ 1 ∷ 2 ∷ 3 ∷ 4 ∷ []) (key 0 0 ∷ key 0 1 ∷ key 1 0 ∷ key 1 1 ∷ key 1 2 ∷ []) (5 ∷ 5 ∷ 0xFFFF_FFFF ∷ 0xFFFF_FFFF ∷ 0 ∷ [])
          (200 ∷ 200 ∷ 200 ∷ 200 ∷ 3 ∷ []) true;
      asked = asking last_part 2 kept_success (length success);
    }

-- the page of texts after part 1, and after part 2
unfoldable pub page2 : List ℕ
page2 = text 0x41 ++ (text 0x42 ++ (text 0x43 ++ (text 0x44 ++ replicate (page_size - 4 * text_size) 0)))

unfoldable pub page3 : List ℕ
page3 =
    text 0x41 ++ (text 0x42 ++ (text 0x43 ++ (text 0x44 ++ (new ++ replicate (page_size - 4 * text_size - 3) 0))))
