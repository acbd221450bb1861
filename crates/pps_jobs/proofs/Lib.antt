mod FilesRead
mod TextsWritten
