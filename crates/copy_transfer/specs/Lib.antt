pub mod CopiedFiles
