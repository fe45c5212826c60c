pub mod ColorSink
