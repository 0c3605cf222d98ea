-- The generated script: its statements in order, the text of each, and what is counted of each.
use Rattle.std.specs.Prelude.{ℕ, ◌+◌, ◌-◌, ◌*◌, ◌/◌, ◌%◌, min, ◌==◌, Bool, not, List, [], ◌∷◌, ◌++◌, map, flat_map, slice_get, codes, decimal, Option}
use Rattle.std.specs.List.{range_with_len}
use Rattle.pq_fill.specs.declared.item.Definition.{Definition}
use Rattle.pq_fill.specs.declared.item.Definition.TheVariants as definition
use Rattle.pq_fill.specs.declared.item.Item.{Item}
use Rattle.pq_fill.specs.declared.item.Item.TheVariants as item
use Rattle.pq_fill.specs.declared.item.Kind.{Kind}
use Rattle.pq_fill.specs.declared.item.Kind.TheVariants as kind
use Rattle.pq_print.specs.Values.{truth_text}

-- ---- the statements for n users, who are numbered from 0

-- the numbers below n
abbrev pub below : ℕ → List ℕ
below n = range_with_len 0 n

abbrev pub definitions : List Item
definitions =
    item.Definition definition.Users
    ∷ item.Definition definition.Subs
    ∷ item.Definition definition.Thoughts
    ∷ item.Definition definition.Home ∷ []

abbrev pub users : ℕ → List Item
users n = map (λ i. item.User i) (below n)

abbrev pub runs : ℕ → List Item
runs n = map (λ i. item.Run i) (below n)

-- to how many others a user subscribes: five, or all where there are fewer
abbrev pub followed_user : ℕ → ℕ
followed_user n = min 5 (n - 1)

-- the subscription of a user to the j-th behind him, in a circle; the third isn't approved
abbrev pub sub : ℕ → ℕ → ℕ → Item
sub n i j = item.Sub i ((i + j) % n) (not (j == 3))

-- the subscriptions of a user
abbrev pub subs : ℕ → ℕ → List Item
subs n i = map (sub n i) (range_with_len 1 (followed_user n))

-- the thought of a user in a round
abbrev pub thought : ℕ → ℕ → ℕ → Item
thought n t i = item.Thought i (t * n + i)

-- the thoughts of a round
abbrev pub thoughts : ℕ → ℕ → List Item
thoughts n t = map (thought n t) (below n)

-- all statements in order: the definitions, the users, the subscriptions of each user, five rounds of thoughts, and
-- the home page of each user
unfoldable pub items : ℕ → List Item
items n =
    definitions
    ++ users n
    ++ flat_map (subs n) (below n)
    ++ flat_map (thoughts n) (below 5)
    ++ runs n

-- ---- their texts

abbrev pub digit : ℕ → ℕ
digit d = 48 + d

-- `u` and the number in five digits
abbrev pub user_name : ℕ → List ℕ
user_name i =
    codes "u"
    ++ digit (i / 10000 % 10) ∷ digit (i / 1000 % 10) ∷ digit (i / 100 % 10) ∷ digit (i / 10 % 10) ∷ digit (i % 10) ∷ []

unfoldable pub quoted_name : ℕ → List ℕ
quoted_name i = codes "'" ++ user_name i ++ codes "'"

-- an INSERT up to the first value, which is a user's name
unfoldable pub insert_into : List ℕ → ℕ → List ℕ
insert_into table i = codes "INSERT INTO " ++ table ++ codes " VALUES (" ++ quoted_name i

abbrev pub script_definition : Definition → List ℕ
script_definition definition.Users = codes "CREATE TABLE users (name TEXT(16), city TEXT(16), PRIMARY KEY (name));"
script_definition definition.Subs =
    codes "CREATE TABLE subs (owner TEXT(16), target TEXT(16), approved BOOL, PRIMARY KEY (owner, target), CARDINALITY LIMIT 100 (owner), FOREIGN KEY (owner) REFERENCES users, FOREIGN KEY (target) REFERENCES users);"
script_definition definition.Thoughts =
    codes "CREATE TABLE thoughts (owner TEXT(16), ts INT, body TEXT(140), PRIMARY KEY (owner, ts), FOREIGN KEY (owner) REFERENCES users);"
script_definition definition.Home =
    codes "PREPARE home AS SELECT t.owner, t.ts, t.body FROM subs s, thoughts t WHERE s.owner = [1: uname] AND s.approved = true AND t.owner = s.target ORDER BY t.ts DESC LIMIT 10;"

-- a user has one of ten cities, by the last digit of the number
abbrev pub user_text : ℕ → List ℕ
user_text i = insert_into (codes "users") i ++ codes ", 'c" ++ digit (i % 10) ∷ codes "');"

abbrev pub sub_text : ℕ → ℕ → Bool → List ℕ
sub_text i j approved =
    insert_into (codes "subs") i ++ codes ", " ++ quoted_name j ++ codes ", " ++ truth_text approved ++ codes ");"

abbrev pub thought_text : ℕ → ℕ → List ℕ
thought_text i time = insert_into (codes "thoughts") i ++ codes ", " ++ decimal time ++ codes ", 'b');"

abbrev pub run_text : ℕ → List ℕ
run_text i = codes "RUN home (" ++ quoted_name i ++ codes ");"

abbrev pub item_text : Item → List ℕ
item_text (item.Definition d) = script_definition d
item_text (item.User i) = user_text i
item_text (item.Sub i j approved) = sub_text i j approved
item_text (item.Thought i time) = thought_text i time
item_text (item.Run i) = run_text i

-- the texts of the script in order
abbrev pub fill_script : ℕ → List (List ℕ)
fill_script n = map item_text (items n)

-- the statement of this number, from 0
abbrev pub fill_statement : ℕ → ℕ → Option (List ℕ)
fill_statement n i = slice_get (fill_script n) i

-- ---- what is counted of each

abbrev pub item_kind : Item → Kind
item_kind (item.Definition d) = kind.Definition
item_kind (item.User i) = kind.User
item_kind (item.Sub i j approved) = kind.Sub
item_kind (item.Thought i time) = kind.Thought
item_kind (item.Run i) = kind.Run

-- the kinds of the statements in order
abbrev pub fill_kinds : ℕ → List Kind
fill_kinds n = map item_kind (items n)

-- the kind of the statement of this number, from 0
abbrev pub fill_kind : ℕ → ℕ → Option Kind
fill_kind n i = slice_get (fill_kinds n) i
