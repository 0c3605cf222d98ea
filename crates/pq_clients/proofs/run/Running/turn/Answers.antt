use Rattle.std.proofs.Common.{vec_capacity}
use Rattle.pq_clients.specs.Stepping.{view_of}
use Rattle.pq_clients.proofs.Left.{leaves_less}
use Rattle.pq_clients.proofs.Seats.{view_at, view_set, client_at, clients_set, told_fit, puts_fit, told_room, puts_room}
use Rattle.pq_clients.proofs.run.Running.turn.Goals as goal

pub step-said-requires : goal.step-said-requires
step-said-requires g c =
    client_at c.args.catalog.now.tables c.args.self.now.clients.items c.args.place c.index_mut.result.now c.requires.clients c.requires.place c.index_mut.ensures.value

pub note-requires-clause-told_room : goal.note-requires-clause-told_room
note-requires-clause-told_room g c =
    let x = c.index_mut.result.now in
    let tables = c.args.catalog.now.tables in
    let all = c.args.self.now.clients.items in
    let is = client_at tables all c.args.place x c.requires.clients c.requires.place c.index_mut.ensures.value in
    told_fit all c.args.place x c.step-said.new.self c.step-said.result c.args.self.now.told.items (vec_capacity c.args.self.now.told) c.requires.place c.index_mut.ensures.value
    (leaves_less tables (view_of x) (view_of c.step-said.new.self) _ _ c.step-said.result is.from_one c.step-said.ensures.way c.step-said.ensures.calls)
    c.requires.room.told

pub note-requires-clause-puts_room : goal.note-requires-clause-puts_room
note-requires-clause-puts_room g c =
    let x = c.index_mut.result.now in
    let tables = c.args.catalog.now.tables in
    let all = c.args.self.now.clients.items in
    let is = client_at tables all c.args.place x c.requires.clients c.requires.place c.index_mut.ensures.value in
    puts_fit all c.args.place x c.step-said.new.self c.step-said.result c.args.self.now.puts.items (vec_capacity c.args.self.now.puts) c.requires.place c.index_mut.ensures.value
    (leaves_less tables (view_of x) (view_of c.step-said.new.self) _ _ c.step-said.result is.from_one c.step-said.ensures.way c.step-said.ensures.calls)
    c.requires.room.puts

pub returns-clause-turn : goal.returns-clause-turn
returns-clause-turn g c = record {
  view = view_of c.index_mut.result.now;
  left = view_of c.step-said.new.self;
  said = c.step-said.result;
  at = view_at c.args.self.now.clients.items c.args.place c.index_mut.result.now c.requires.place c.index_mut.ensures.value;
  others = view_set c.args.self.now.clients.items c.args.place c.step-said.new.self;
  tells = c.note.ensures.told;
  puts = c.note.ensures.puts;
  leaves = c.step-said.ensures.told;
  way = c.step-said.ensures.way;
  calls = c.step-said.ensures.calls;
}

pub returns-clause-clients : goal.returns-clause-clients
returns-clause-clients g c =
    clients_set c.args.catalog.now.tables c.args.self.now.clients.items c.args.place c.step-said.new.self c.requires.clients c.step-said.ensures.kept

pub returns-clause-room : goal.returns-clause-room
returns-clause-room g c =
    let x = c.index_mut.result.now in
    let tables = c.args.catalog.now.tables in
    let all = c.args.self.now.clients.items in
    let is = client_at tables all c.args.place x c.requires.clients c.requires.place c.index_mut.ensures.value in
    let less = leaves_less tables (view_of x) (view_of c.step-said.new.self) _ _ c.step-said.result is.from_one c.step-said.ensures.way c.step-said.ensures.calls in
    record {
      told = told_room all c.args.place x c.step-said.new.self c.step-said.result c.args.self.now.told.items c.note.new.told.items
          (vec_capacity c.args.self.now.told) (vec_capacity c.note.new.told) c.requires.place c.index_mut.ensures.value less
          c.requires.room.told c.note.ensures.told c.note.ensures.told_room;
      puts = puts_room all c.args.place x c.step-said.new.self c.step-said.result c.args.self.now.puts.items c.note.new.puts.items
          (vec_capacity c.args.self.now.puts) (vec_capacity c.note.new.puts) c.requires.place c.index_mut.ensures.value less
          c.requires.room.puts c.note.ensures.puts c.note.ensures.puts_room;
    }
