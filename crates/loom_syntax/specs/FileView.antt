-- What the reader's variables stand for, in a file.
use Rattle.std.specs.Prelude.{List, Option, Some, None}
use Rattle.loom_tree.specs.declared.item.FileItem as rust_item
use Rattle.loom_tree.specs.Tree as tree
use Rattle.loom_tree.specs.Tree.{Expression, Body, items_of}
use Rattle.loom_syntax.specs.declared.file.Header as rust_header
use Rattle.loom_syntax.specs.declared.file.FileReader as rust_reader
use Rattle.loom_syntax.specs.declared.file.FileReader.TheVariants as s
use Rattle.loom_syntax.specs.View.{Statement}
use Rattle.loom_syntax.specs.HeadView.{head_of}
use Rattle.loom_syntax.specs.BlockView.{block_of}
use Rattle.loom_syntax.specs.FileReader as m

abbrev pub header_of : rust_header.Header → m.Header
header_of h = record { line = h.line; name = h.name; params = h.params.items }

abbrev pub reader_of : rust_reader.FileReader → m.FileReader Expression Statement Body tree.FileItem
reader_of (s.Between is) = m.Between (items_of is.items)
reader_of (s.Heading is l h) = m.Heading (items_of is.items) l (head_of h.value)
reader_of (s.InFunction is f i) = m.InFunction (items_of is.items) (header_of f) (block_of i)

abbrev pub reader_if : Option rust_reader.FileReader → Option (m.FileReader Expression Statement Body tree.FileItem)
reader_if None = None
reader_if (Some s) = Some (reader_of s)

abbrev pub items_if : Option (List rust_item.FileItem) → Option (List tree.FileItem)
items_if None = None
items_if (Some is) = Some (items_of is)
