-- The specimen messages of RULES 8, byte by byte.
use Rattle.std.specs.Prelude.{List, [], ◌∷◌, ◌++◌, ℕ, zero, suc}

-- S1, the request: 02 00 00 00 00 07 00 00 15 36 00 17 24 02 01 24 03 06 24 04 00 18 18 28 03 24 FF 0A 18
abbrev pub request1 : List ℕ
request1 =
    0x02 ∷ 0x00 ∷ 0x00 ∷ 0x00 ∷ 0x00 ∷ 0x07 ∷ 0x00 ∷ 0x00 ∷ 0x15 ∷ 0x36 ∷ 0x00 ∷ 0x17 ∷ 0x24 ∷ 0x02 ∷ 0x01 ∷ 0x24 ∷ 0x03 ∷ 0x06 ∷ 0x24 ∷ 0x04 ∷ 0x00 ∷ 0x18 ∷ 0x18
    ∷ 0x28 ∷ 0x03 ∷ 0x24 ∷ 0xFF ∷ 0x0A ∷ 0x18 ∷ []

-- the reply: 05 00 00 00 00 07 00 01 15 36 01 15 35 01 24 00 05 37 01 24 02 01 24 03 06 24 04 00 18 29 02 18 18 18 29 04 24 FF 0A 18
abbrev pub reply1 : List ℕ
reply1 =
    0x05 ∷ 0x00 ∷ 0x00 ∷ 0x00 ∷ 0x00 ∷ 0x07 ∷ 0x00 ∷ 0x01 ∷ 0x15 ∷ 0x36 ∷ 0x01 ∷ 0x15 ∷ 0x35 ∷ 0x01 ∷ 0x24 ∷ 0x00 ∷ 0x05 ∷ 0x37 ∷ 0x01 ∷ 0x24 ∷ 0x02 ∷ 0x01 ∷ 0x24
    ∷ 0x03 ∷ 0x06 ∷ 0x24 ∷ 0x04 ∷ 0x00 ∷ 0x18 ∷ 0x29 ∷ 0x02 ∷ 0x18 ∷ 0x18 ∷ 0x18 ∷ 0x29 ∷ 0x04 ∷ 0x24 ∷ 0xFF ∷ 0x0A ∷ 0x18 ∷ []

-- S2, the block: 15 35 00 37 00 24 02 01 24 03 06 24 04 09 18 35 01 24 00 86 18 18 18
abbrev pub block2 : List ℕ
block2 =
    0x15 ∷ 0x35 ∷ 0x00 ∷ 0x37 ∷ 0x00 ∷ 0x24 ∷ 0x02 ∷ 0x01 ∷ 0x24 ∷ 0x03 ∷ 0x06 ∷ 0x24 ∷ 0x04 ∷ 0x09 ∷ 0x18 ∷ 0x35 ∷ 0x01 ∷ 0x24 ∷ 0x00 ∷ 0x86 ∷ 0x18 ∷ 0x18 ∷ 0x18
    ∷ []

-- S3, the payload: 15 29 04 24 FF 0A 18
abbrev pub payload3 : List ℕ
payload3 = 0x15 ∷ 0x29 ∷ 0x04 ∷ 0x24 ∷ 0xFF ∷ 0x0A ∷ 0x18 ∷ []

-- S5: -128 as 20 02 80, -129 as 21 02 7F FF
abbrev pub minus128 : List ℕ
minus128 = 0x20 ∷ 0x02 ∷ 0x80 ∷ []

abbrev pub minus129 : List ℕ
minus129 = 0x21 ∷ 0x02 ∷ 0x7F ∷ 0xFF ∷ []

-- THE FRAMES of the other messages. The envelope of exchange 7: opcode, then turn
abbrev pub envelope : ℕ → ℕ → List ℕ
envelope opcode turn = opcode ∷ 0x00 ∷ 0x00 ∷ 0x00 ∷ 0x00 ∷ 0x07 ∷ 0x00 ∷ turn ∷ []

-- the end of every message: revision 10
abbrev pub ending : List ℕ
ending = 0x24 ∷ 0xFF ∷ 0x0A ∷ 0x18 ∷ []

-- an attribute below 256, and FFFD
abbrev pub id : ℕ → List ℕ
id n = 0x24 ∷ 0x04 ∷ n ∷ []

abbrev pub id_fffd : List ℕ
id_fffd = 0x25 ∷ 0x04 ∷ 0xFD ∷ 0xFF ∷ []

-- endpoint 1, a cluster, an attribute, and the end of a path
abbrev pub path : ℕ → List ℕ → List ℕ
path cluster attribute = 0x24 ∷ 0x02 ∷ 0x01 ∷ 0x24 ∷ 0x03 ∷ cluster ∷ (attribute ++ (0x18 ∷ []))

-- a path of a read, and one whose cluster is absent
abbrev pub asked : ℕ → List ℕ → List ℕ
asked cluster attribute = 0x17 ∷ path cluster attribute

abbrev pub asked_of_any : List ℕ → List ℕ
asked_of_any attribute = 0x17 ∷ 0x24 ∷ 0x02 ∷ 0x01 ∷ (attribute ++ (0x18 ∷ []))

-- a read of paths, with what stands between FabricFiltered and the revision
abbrev pub reading : List ℕ → List ℕ → List ℕ
reading paths more = envelope 0x02 0x00 ++ (0x15 ∷ 0x36 ∷ 0x00 ∷ (paths ++ (0x18 ∷ 0x28 ∷ 0x03 ∷ (more ++ ending))))

-- a filter for endpoint 1, cluster 6, with a version; and the list of filters
abbrev pub filter : ℕ → List ℕ
filter version = 0x15 ∷ 0x37 ∷ 0x00 ∷ 0x24 ∷ 0x01 ∷ 0x01 ∷ 0x24 ∷ 0x02 ∷ 0x06 ∷ 0x18 ∷ 0x24 ∷ 0x01 ∷ version ∷ 0x18 ∷ []

abbrev pub filters : List ℕ → List ℕ
filters l = 0x36 ∷ 0x04 ∷ (l ++ (0x18 ∷ []))

-- a version below 256, and FFFFFFFF
abbrev pub version : ℕ → List ℕ
version n = 0x24 ∷ 0x00 ∷ n ∷ []

abbrev pub version_ffffffff : List ℕ
version_ffffffff = 0x26 ∷ 0x00 ∷ 0xFF ∷ 0xFF ∷ 0xFF ∷ 0xFF ∷ []

-- a block with a value: version, cluster, attribute and data
abbrev pub block : List ℕ → ℕ → List ℕ → List ℕ → List ℕ
block v cluster attribute value =
    0x15 ∷ 0x35 ∷ 0x01 ∷ (v ++ (0x37 ∷ 0x01 ∷ (path cluster attribute ++ (value ++ (0x18 ∷ 0x18 ∷ [])))))

-- a report of blocks that says all is sent
abbrev pub report : List ℕ → List ℕ
report blocks = envelope 0x05 0x01 ++ (0x15 ∷ 0x36 ∷ 0x01 ∷ (blocks ++ (0x18 ∷ 0x29 ∷ 0x04 ∷ ending)))

-- the first part of a report of which more follows, and the second, which says all is sent
abbrev pub first_part : List ℕ → List ℕ
first_part blocks = envelope 0x05 0x01 ++ (0x15 ∷ 0x36 ∷ 0x01 ∷ (blocks ++ (0x18 ∷ 0x29 ∷ 0x03 ∷ ending)))

abbrev pub second_part : List ℕ → List ℕ
second_part blocks = envelope 0x05 0x02 ++ (0x15 ∷ 0x36 ∷ 0x01 ∷ (blocks ++ (0x18 ∷ 0x29 ∷ 0x04 ∷ ending)))

-- a status response
abbrev pub status : ℕ → List ℕ
status code = envelope 0x01 0x01 ++ (0x15 ∷ 0x24 ∷ 0x00 ∷ code ∷ ending)

-- a write of one entry: cluster, attribute and data
abbrev pub writing : ℕ → List ℕ → List ℕ → List ℕ
writing cluster attribute value =
    envelope 0x06 0x00
    ++ (0x15 ∷ 0x28 ∷ 0x00 ∷ 0x28 ∷ 0x01 ∷ 0x36 ∷ 0x02 ∷ 0x15 ∷ 0x37 ∷ 0x01 ∷ (path cluster attribute ++ (value ++ (0x18 ∷ 0x18 ∷ ending))))

-- the write response with its status
abbrev pub response : ℕ → List ℕ → ℕ → List ℕ
response cluster attribute code =
    envelope 0x07 0x01
    ++ (0x15 ∷ 0x36 ∷ 0x00 ∷ 0x15 ∷ 0x37 ∷ 0x00 ∷ (path cluster attribute ++ (0x35 ∷ 0x01 ∷ 0x24 ∷ 0x00 ∷ code ∷ 0x18 ∷ 0x18 ∷ 0x18 ∷ ending)))

-- data of a boolean, of a float by its four bytes, and of a text of so many bytes, each 41
abbrev pub true-data : List ℕ
true-data = 0x29 ∷ 0x02 ∷ []

abbrev pub float-data : ℕ → ℕ → ℕ → ℕ → List ℕ
float-data a b c d = 0x2A ∷ 0x02 ∷ a ∷ b ∷ c ∷ d ∷ []

abbrev pub text-data : ℕ → List ℕ → List ℕ
text-data length bytes = 0x2C ∷ 0x02 ∷ length ∷ bytes

-- n copies of a list
unfoldable pub times : ℕ → List ℕ → List ℕ
times zero l = []
times (suc n) l = l ++ times n l

-- a structure that holds a structure that holds .., n of them, each under an unlisted context tag
unfoldable pub nested : ℕ → List ℕ
nested zero = []
nested (suc n) = 0x35 ∷ 0x63 ∷ (nested n ++ (0x18 ∷ []))
